use Rattle.std.proofs.Common.{rules, arith, ◌≡◌, ◌<◌, ◌≤◌, length, sym, ap, ◌∙◌, subst}
use Rattle.std.specs.Prelude.{nat_eq}
use Rattle.std.specs.HashMap.{get}
use Rattle.trees.specs.Measures.{depth, depth_trees, depth_limit}
use Rattle.box_terms.specs.BoxSyntax.{BCase, BFix}
use Rattle.box_terms.specs.BoxLists.{arms_of, bodies_of, rargs_of}
use Rattle.box_terms.specs.BoxView.{box_of}
use Rattle.box_terms.proofs.Items.{arm_is_less, body_is_less}
use Rattle.shrink_passes.specs.Filled.{filled, filled_terms}
use Rattle.shrink_passes.proofs.Fillings.{case_filled, fix_filled, arm_filled_is_less, body_filled_is_less}
use Rattle.shrink_passes.proofs.filling.+fill.Goals as goal

pub fill-returns-then-share_branches-clause-ok : goal.fill-returns-then-share_branches-clause-ok
fill-returns-then-share_branches-clause-ok t c =
    let m = get nat_eq c.args.bodies.now in
    let e : box_of c.view.result.now ≡ BCase c.in-Case.f c.in-Case.s (arms_of c.in-Case.bs) = ap box_of c.in-Case.is in
    let s : c.in_ok-scrut-in-Case.scrut ≡ c.in-Case.s = search rules in
    let b : c.in_ok-branches-in-Case.branches ≡ c.in-Case.bs = search rules in
    let same : BCase c.in-Case.f c.in-Case.s (arms_of c.in-Case.bs) ≡ filled m (BCase c.in-Case.f c.in-Case.s (arms_of c.in-Case.bs)) =
    sym (ap (λ s. BCase c.in-Case.f s (arms_of c.in_ok-branches-in-Case.branches)) s ∙ ap (λ bs. BCase c.in-Case.f c.in-Case.s (arms_of bs)) b)
    ∙ case_filled m c.in-Case.f c.in-Case.s c.in_ok-scrut-in-Case.scrut c.in-Case.bs c.in_ok-branches-in-Case.branches c.in_ok-scrut-in-Case.ensures.ok c.in_ok-branches-in-Case.ensures.ok in
    let whole : c.args.t.now ≡ filled m c.args.t.now = subst (λ t. t ≡ filled m t) (sym e ∙ c.view.ensures.is) same in
    search (rules, whole)

pub fill-made-requires-in-Case-clause-is : goal.fill-made-requires-in-Case-clause-is
fill-made-requires-in-Case-clause-is t c =
    let m = get nat_eq c.args.bodies.now in
    let e : box_of c.view.result.now ≡ BCase c.in-Case.f c.in-Case.s (arms_of c.in-Case.bs) = ap box_of c.in-Case.is in
    case_filled m c.in-Case.f c.in-Case.s c.in_ok-scrut-in-Case.scrut c.in-Case.bs c.in_ok-branches-in-Case.branches c.in_ok-scrut-in-Case.ensures.ok c.in_ok-branches-in-Case.ensures.ok
    ∙ ap (filled m) (sym e ∙ c.view.ensures.is)

pub fill-returns-then-share_defs-clause-ok : goal.fill-returns-then-share_defs-clause-ok
fill-returns-then-share_defs-clause-ok t c =
    let m = get nat_eq c.args.bodies.now in
    let e : box_of c.view.result.now ≡ BFix c.in-Fix.i (rargs_of c.in-Fix.ds) (bodies_of (length c.in-Fix.ds) c.in-Fix.ds) = ap box_of c.in-Fix.is in
    let d : c.in_ok-defs-in-Fix.defs ≡ c.in-Fix.ds = search rules in
    let same : BFix c.in-Fix.i (rargs_of c.in-Fix.ds) (bodies_of (length c.in-Fix.ds) c.in-Fix.ds) ≡ filled m (BFix c.in-Fix.i (rargs_of c.in-Fix.ds) (bodies_of (length c.in-Fix.ds) c.in-Fix.ds)) =
    fix_filled m c.in-Fix.ds c.in-Fix.ds c.in-Fix.i (sym d ∙ c.in_ok-defs-in-Fix.ensures.ok) in
    let whole : c.args.t.now ≡ filled m c.args.t.now = subst (λ t. t ≡ filled m t) (sym e ∙ c.view.ensures.is) same in
    search (rules, whole)

pub fill-made-requires-in-Fix-clause-is : goal.fill-made-requires-in-Fix-clause-is
fill-made-requires-in-Fix-clause-is t c =
    let m = get nat_eq c.args.bodies.now in
    let e : box_of c.view.result.now ≡ BFix c.in-Fix.i (rargs_of c.in-Fix.ds) (bodies_of (length c.in-Fix.ds) c.in-Fix.ds) = ap box_of c.in-Fix.is in
    fix_filled m c.in-Fix.ds c.in_ok-defs-in-Fix.defs c.in-Fix.i c.in_ok-defs-in-Fix.ensures.ok ∙ ap (filled m) (sym e ∙ c.view.ensures.is)

pub fill_branches-fill-requires : goal.fill_branches-fill-requires
fill_branches-fill-requires t c =
    let m = get nat_eq c.args.bodies.now in
    let l : c.loop-i.i < length c.as_slice-xs.result.now = grind arith in
    let d = subst (λ xs. depth c.index-xs-i.result.body ≤ depth_trees (arms_of xs)) c.as_slice-xs.ensures.is (arm_is_less c.as_slice-xs.result.now c.loop-i.i c.index-xs-i.result l c.index-xs-i.is) in
    let s = subst (λ xs. depth (filled m c.index-xs-i.result.body) ≤ depth_trees (filled_terms m (arms_of xs))) c.as_slice-xs.ensures.is (arm_filled_is_less m c.as_slice-xs.result.now c.loop-i.i c.index-xs-i.result l c.index-xs-i.is) in
    let room : depth (filled m c.index-xs-i.result.body) ≤ depth_limit = omega (arith, s, c.requires.shallow) in
    search (rules, d, room)

pub fill_defs-fill-requires : goal.fill_defs-fill-requires
fill_defs-fill-requires t c =
    let m = get nat_eq c.args.bodies.now in
    let l : c.loop-i.i < length c.as_slice-xs.result.now = grind arith in
    let d = subst (λ ds. depth c.index-xs-i.result.body ≤ depth_trees (bodies_of (length c.args.ds.now) ds)) c.as_slice-xs.ensures.is
    (body_is_less (length c.args.ds.now) c.as_slice-xs.result.now c.loop-i.i c.index-xs-i.result l c.index-xs-i.is) in
    let s = subst (λ ds. depth (filled m c.index-xs-i.result.body) ≤ depth_trees (filled_terms m (bodies_of (length c.args.ds.now) ds))) c.as_slice-xs.ensures.is
    (body_filled_is_less m (length c.args.ds.now) c.as_slice-xs.result.now c.loop-i.i c.index-xs-i.result l c.index-xs-i.is) in
    let room : depth (filled m c.index-xs-i.result.body) ≤ depth_limit = omega (arith, s, c.requires.shallow) in
    search (rules, d, room)
