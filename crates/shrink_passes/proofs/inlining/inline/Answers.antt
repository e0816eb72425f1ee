use Rattle.std.proofs.Common.{◌≡◌, ℕ, ◌+◌, ◌<◌, List, ◌∷◌, length, drop, nat_eq, sym, ap, ◌∙◌, subst, arith}
use Rattle.std.proofs.Math.ListN.{drop_of_length-le}
use Rattle.std.specs.HashMap.{get}
use Rattle.std.specs.Map.{lookup}
use Rattle.trees.specs.Measures.{depth}
use Rattle.lambda_box.specs.BoxProgram.{BoxConstant}
use Rattle.shrink_passes.specs.Sights.{is_once}
use Rattle.shrink_passes.specs.Filled.{filled}
use Rattle.shrink_passes.proofs.Table.{Looped, loop_step, fill_shallow, loop_starts, loop_inlined, in_order, next_item}
use Rattle.shrink_passes.proofs.inlining.inline.Goals as goal

pub loop-d-init : goal.loop-d-init
loop-d-init c =
    let P = c.args.p.now in
    let S = get nat_eq c.in_ok-sights.sights in
    let g = c.greatest_depth-greatest.result in
    let m = get nat_eq c.new-bodies.result in
    let items = c.as_slice-d-items.result.now in
    let none = λ (k : ℕ). ap (λ es. lookup (nat_eq k) es) c.new-bodies.ensures.empty in
    subst (λ (ds : List BoxConstant). Looped P S g m ds items) (sym c.new-constants.ensures.empty)
    (loop_starts P S g m items c.in_ok-sights.ensures.is c.greatest_depth-greatest.ensures.is c.requires.form none (in_order items P.constants c.as_slice-d-items.ensures.is))

pub fill-requires : goal.fill-requires
fill-requires c =
    let P = c.args.p.now in
    let S = get nat_eq c.in_ok-sights.sights in
    let g = c.greatest_depth-greatest.result in
    let m = get nat_eq c.loop-d.bodies in
    let items = c.as_slice-d-items.result.now in
    let i = c.loop-d.d-index in
    let l : i < length items = grind arith in
    let h = subst (λ (ds : List BoxConstant). Looped P S g m c.loop-d.constants ds) (next_item items i c.d-item.result l c.d-item.is) c.loop-d.invariant in
    record { shallow = fill_shallow P S g m c.loop-d.constants c.d-item.result (drop (i + 1) items) h c.greatest_depth-greatest.ensures.within }

pub loop-d-preserved : goal.loop-d-preserved
loop-d-preserved c =
    let P = c.args.p.now in
    let S = get nat_eq c.in_ok-sights.sights in
    let g = c.greatest_depth-greatest.result in
    let m = get nat_eq c.loop-d.bodies in
    let n = get nat_eq c.keep.new.bodies in
    let done = c.loop-d.constants in
    let d = c.d-item.result in
    let items = c.as_slice-d-items.result.now in
    let i = c.loop-d.d-index in
    let rest = drop (i + 1) items in
    let l : i < length items = grind arith in
    let h : Looped P S g m done (d ∷ rest) = subst (λ (ds : List BoxConstant). Looped P S g m done ds) (next_item items i d l c.d-item.is) c.loop-d.invariant in
    let body : c.in_ok-body.body ≡ filled m d.body = c.in_ok-body.ensures.ok in
    let seen : c.copied.result ≡ S d.name.0 = grind arith in
    let deep : c.depth.result ≡ depth (filled m d.body) = c.depth.ensures.is ∙ ap depth body in
    let choice : c.keeps_depth-put.result ≡ is_once g (depth (filled m d.body)) (S d.name.0) = c.keeps_depth-put.ensures.is ∙ (λ j. is_once g (deep j) (seen j)) in
    loop_step P S g m n done c.keep.new.constants d rest h c.keeps_depth-put.result choice c.in_ok-body.body body c.in_ok-keep.ensures.put c.in_ok-keep.ensures.kept

pub returns-clause-is : goal.returns-clause-is
returns-clause-is c =
    (loop_inlined c.args.p.now c.requires.form (get nat_eq c.in_ok-sights.sights) c.greatest_depth-greatest.result (get nat_eq c.loop-d.bodies) c.loop-d.constants (drop c.loop-d.d-index c.as_slice-d-items.result.now) c.in-Ok.families c.in_ok-main.main
    c.loop-d.invariant (drop_of_length-le c.as_slice-d-items.result.now c.loop-d-test.false) c.in-Ok.ensures.ok c.in_ok-main.ensures.ok).is

pub returns-clause-form : goal.returns-clause-form
returns-clause-form c =
    (loop_inlined c.args.p.now c.requires.form (get nat_eq c.in_ok-sights.sights) c.greatest_depth-greatest.result (get nat_eq c.loop-d.bodies) c.loop-d.constants (drop c.loop-d.d-index c.as_slice-d-items.result.now) c.in-Ok.families c.in_ok-main.main
    c.loop-d.invariant (drop_of_length-le c.as_slice-d-items.result.now c.loop-d-test.false) c.in-Ok.ensures.ok c.in_ok-main.ensures.ok).form

pub returns-clause-saturated : goal.returns-clause-saturated
returns-clause-saturated c =
    (loop_inlined c.args.p.now c.requires.form (get nat_eq c.in_ok-sights.sights) c.greatest_depth-greatest.result (get nat_eq c.loop-d.bodies) c.loop-d.constants (drop c.loop-d.d-index c.as_slice-d-items.result.now) c.in-Ok.families c.in_ok-main.main
    c.loop-d.invariant (drop_of_length-le c.as_slice-d-items.result.now c.loop-d-test.false) c.in-Ok.ensures.ok c.in_ok-main.ensures.ok).saturated

pub returns-clause-ordinary : goal.returns-clause-ordinary
returns-clause-ordinary c =
    (loop_inlined c.args.p.now c.requires.form (get nat_eq c.in_ok-sights.sights) c.greatest_depth-greatest.result (get nat_eq c.loop-d.bodies) c.loop-d.constants (drop c.loop-d.d-index c.as_slice-d-items.result.now) c.in-Ok.families c.in_ok-main.main
    c.loop-d.invariant (drop_of_length-le c.as_slice-d-items.result.now c.loop-d-test.false) c.in-Ok.ensures.ok c.in_ok-main.ensures.ok).ordinary

pub returns-clause-data_kept : goal.returns-clause-data_kept
returns-clause-data_kept c =
    (loop_inlined c.args.p.now c.requires.form (get nat_eq c.in_ok-sights.sights) c.greatest_depth-greatest.result (get nat_eq c.loop-d.bodies) c.loop-d.constants (drop c.loop-d.d-index c.as_slice-d-items.result.now) c.in-Ok.families c.in_ok-main.main
    c.loop-d.invariant (drop_of_length-le c.as_slice-d-items.result.now c.loop-d-test.false) c.in-Ok.ensures.ok c.in_ok-main.ensures.ok).runs

pub returns-clause-nodes_kept : goal.returns-clause-nodes_kept
returns-clause-nodes_kept c =
    (loop_inlined c.args.p.now c.requires.form (get nat_eq c.in_ok-sights.sights) c.greatest_depth-greatest.result (get nat_eq c.loop-d.bodies) c.loop-d.constants (drop c.loop-d.d-index c.as_slice-d-items.result.now) c.in-Ok.families c.in_ok-main.main
    c.loop-d.invariant (drop_of_length-le c.as_slice-d-items.result.now c.loop-d-test.false) c.in-Ok.ensures.ok c.in_ok-main.ensures.ok).nodes

pub returns-clause-no_deeper : goal.returns-clause-no_deeper
returns-clause-no_deeper c =
    (loop_inlined c.args.p.now c.requires.form (get nat_eq c.in_ok-sights.sights) c.greatest_depth-greatest.result (get nat_eq c.loop-d.bodies) c.loop-d.constants (drop c.loop-d.d-index c.as_slice-d-items.result.now) c.in-Ok.families c.in_ok-main.main
    c.loop-d.invariant (drop_of_length-le c.as_slice-d-items.result.now c.loop-d-test.false) c.in-Ok.ensures.ok c.in_ok-main.ensures.ok).no_deeper
