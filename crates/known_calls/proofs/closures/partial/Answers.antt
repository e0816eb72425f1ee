use Rattle.std.proofs.Common.{arith, List, ap, get_or, reverse, sym, ◌∙◌, ◌∷◌}
use Rattle.std.specs.Option.{option_and_then}
use Rattle.std.specs.Prelude.{slice_get}
use Rattle.closure_lift.specs.Lifted.{Fn}
use Rattle.closure_lift.specs.LiftedProgram.{renumber_functions, place_in}
use Rattle.closure_lift.specs.declared.program.Function.{Function}
use Rattle.known_calls.specs.KnownPlaces.{Place, At, all_at}
use Rattle.known_calls.specs.KnownCode.{closure_alone}
use Rattle.known_calls.proofs.KnownFinding.{partial_none, partial_is, same_ok}
use Rattle.known_calls.proofs.closures.partial.Goals as goal

pub returns-then-place-functions-clause-is : goal.returns-then-place-functions-clause-is
returns-then-place-functions-clause-is c =
    partial_none (At c.args.argument ∷ all_at c.args.words.now) (place_in c.args.p.now.constants) c.as_slice-functions.result.now c.args.p.now.functions c.args.g c.as_slice-functions.ensures.is (omega (arith, c.if-place-functions.true))

pub returns-clause-is : goal.returns-clause-is
returns-clause-is c =
    let env = At c.args.argument ∷ all_at c.args.words.now in
    let f = place_in c.args.p.now.constants in
    let items = c.as_slice-functions.result.now in
    let x = c.index-functions-place.result in
    let y = get_or items c.args.g x in
    same_ok c.closure_alone.result (closure_alone (reverse c.as_slice.result.now) y.body) (option_and_then (λ (fn : Fn). closure_alone env fn.body) (slice_get (renumber_functions f c.args.p.now.functions) c.args.g))
    (ap (λ (zs : List Place). closure_alone zs y.body) (ap reverse c.as_slice.ensures.value ∙ c.in_ok-places.ensures.is) ∙ ap (λ (z : Function). closure_alone env z.body) (sym c.index-functions-place.is)
    ∙ partial_is env f items c.args.p.now.functions c.args.g x c.as_slice-functions.ensures.is (omega (arith, c.if-place-functions.false)) c.index-functions-place.is)
    c.closure_alone.ensures.is
