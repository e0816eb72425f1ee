use Rattle.std.proofs.Common.{◌≡◌, ◌&&◌, Bool, false, [], drop, reverse, sym, ap, ◌∙◌}
use Rattle.std.proofs.Math.Bool.{and-true}
use Rattle.std.proofs.Math.ListN.{drop_of_length-le}
use Rattle.std.specs.Prelude.{nat_eq}
use Rattle.std.specs.HashMap.{get}
use Rattle.shrink_passes.specs.DropParams.{fits, fits_constants}
use Rattle.shrink_passes.specs.DeadPlaces.{is_place, is_candidate}
use Rattle.shrink_passes.proofs.Table.{in_order}
use Rattle.shrink_passes.proofs.noting.dead_places.Goals as goal

pub loop-d-init : goal.loop-d-init
loop-d-init c = λ k q.
    let items = c.as_slice-d-items.result.now in
    let order : reverse c.args.p.now.constants ≡ items = sym (in_order items c.args.p.now.constants c.as_slice-d-items.ensures.is) in
    ap (λ (z : Bool). z && fits_constants k q items) (c.in_ok-table.ensures.is k q ∙ ap (λ ds. is_candidate k q ds false) order)

pub returns-clause-is : goal.returns-clause-is
returns-clause-is c = λ k q.
    let items = c.as_slice-d-items.result.now in
    let main = c.args.p.now.main in
    let place = is_place (get nat_eq c.loop-d.table) k q in
    let order = in_order items c.args.p.now.constants c.as_slice-d-items.ensures.is in
    let none : drop c.loop-d.d-index items ≡ [] = drop_of_length-le items c.loop-d-test.false in
    let all : place ≡ (is_candidate k q items false && fits_constants k q items) = sym (ap (λ ds. place && fits_constants k q ds) none ∙ and-true place) ∙ c.loop-d.invariant k q in
    c.in_ok-note_whole-2.ensures.noted k q ∙ ap (λ (z : Bool). z && fits k q [] main) all ∙ ap (λ ds. (is_candidate k q ds false && fits_constants k q ds) && fits k q [] main) order
