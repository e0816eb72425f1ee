use Rattle.std.proofs.Common.{rules, arith, ◌≡◌, ◌<◌, ◌≤◌, length, None, sym, ap, ◌∙◌, subst}
use Rattle.std.specs.Prelude.{nat_eq}
use Rattle.std.specs.HashMap.{get}
use Rattle.trees.specs.Measures.{depth, depth_trees}
use Rattle.box_terms.specs.BoxSyntax.{BCase, BFix}
use Rattle.box_terms.specs.BoxLists.{arms_of, bodies_of, rargs_of}
use Rattle.box_terms.specs.BoxView.{box_of}
use Rattle.box_terms.proofs.Items.{arm_is_less, body_is_less}
use Rattle.shrink_passes.specs.DeadPlaces.{is_place, spine}
use Rattle.shrink_passes.specs.Pruned.{pruned}
use Rattle.shrink_passes.proofs.Flagging.{if_ok_map}
use Rattle.shrink_passes.proofs.Cuts.{case_pruned, fix_pruned}
use Rattle.shrink_passes.proofs.pruning.+prune.Goals as goal

pub prune_branches-prune_head-requires : goal.prune_branches-prune_head-requires
prune_branches-prune_head-requires t c =
    let l : c.loop-i.i < length c.as_slice-xs.result.now = grind arith in
    let d = subst (λ xs. depth c.index-xs-i.result.body ≤ depth_trees (arms_of xs)) c.as_slice-xs.ensures.is (arm_is_less c.as_slice-xs.result.now c.loop-i.i c.index-xs-i.result l c.index-xs-i.is) in
    search (rules, d)

pub prune_defs-prune_head-requires : goal.prune_defs-prune_head-requires
prune_defs-prune_head-requires t c =
    let l : c.loop-i.i < length c.as_slice-xs.result.now = grind arith in
    let d = subst (λ ds. depth c.index-xs-i.result.body ≤ depth_trees (bodies_of (length c.args.ds.now) ds)) c.as_slice-xs.ensures.is
    (body_is_less (length c.args.ds.now) c.as_slice-xs.result.now c.loop-i.i c.index-xs-i.result l c.index-xs-i.is) in
    search (rules, d)

pub prune_head-returns-then-share_branches-clause-ok : goal.prune_head-returns-then-share_branches-clause-ok
prune_head-returns-then-share_branches-clause-ok t c =
    let D = is_place (get nat_eq c.args.table.now) in
    let e : box_of c.view.result.now ≡ BCase c.in-Case.f c.in-Case.s (arms_of c.in-Case.bs) = ap box_of c.in-Case.is in
    let q : BCase c.in-Case.f c.in-Case.s (arms_of c.in-Case.bs) ≡ c.args.t.now = sym e ∙ c.view.ensures.is in
    let s : c.in_ok-scrut-in-Case.field-0.term ≡ c.in-Case.s = search rules in
    let b : c.in_ok-branches-in-Case.branches ≡ c.in-Case.bs = search rules in
    let same : BCase c.in-Case.f c.in-Case.s (arms_of c.in-Case.bs) ≡ pruned D (BCase c.in-Case.f c.in-Case.s (arms_of c.in-Case.bs)) =
    sym (ap (λ s. BCase c.in-Case.f s (arms_of c.in_ok-branches-in-Case.branches)) s ∙ ap (λ bs. BCase c.in-Case.f c.in-Case.s (arms_of bs)) b)
    ∙ case_pruned D c.in-Case.f c.in-Case.s c.in_ok-scrut-in-Case.field-0.term c.in-Case.bs c.in_ok-branches-in-Case.branches c.in_ok-scrut-in-Case.ensures.ok.0 c.in_ok-branches-in-Case.ensures.ok in
    let whole : c.args.t.now ≡ pruned D c.args.t.now = subst (λ t. t ≡ pruned D t) q same in
    let none : None ≡ spine c.args.t.now = ap spine q in
    if_ok_map c.same-then-share_branches.result (λ u h. (h.0 ∙ whole, h.1 ∙ none)) c.same-then-share_branches.ensures.ok

pub prune_head-made-requires-in-Case : goal.prune_head-made-requires-in-Case
prune_head-made-requires-in-Case t c =
    let D = is_place (get nat_eq c.args.table.now) in
    let e : box_of c.view.result.now ≡ BCase c.in-Case.f c.in-Case.s (arms_of c.in-Case.bs) = ap box_of c.in-Case.is in
    record {
      is = case_pruned D c.in-Case.f c.in-Case.s c.in_ok-scrut-in-Case.field-0.term c.in-Case.bs c.in_ok-branches-in-Case.branches c.in_ok-scrut-in-Case.ensures.ok.0 c.in_ok-branches-in-Case.ensures.ok
          ∙ ap (pruned D) (sym e ∙ c.view.ensures.is);
    }

pub prune_head-returns-then-share_defs-clause-ok : goal.prune_head-returns-then-share_defs-clause-ok
prune_head-returns-then-share_defs-clause-ok t c =
    let D = is_place (get nat_eq c.args.table.now) in
    let e : box_of c.view.result.now ≡ BFix c.in-Fix.i (rargs_of c.in-Fix.ds) (bodies_of (length c.in-Fix.ds) c.in-Fix.ds) = ap box_of c.in-Fix.is in
    let q : BFix c.in-Fix.i (rargs_of c.in-Fix.ds) (bodies_of (length c.in-Fix.ds) c.in-Fix.ds) ≡ c.args.t.now = sym e ∙ c.view.ensures.is in
    let d : c.in_ok-defs-in-Fix.defs ≡ c.in-Fix.ds = search rules in
    let same : BFix c.in-Fix.i (rargs_of c.in-Fix.ds) (bodies_of (length c.in-Fix.ds) c.in-Fix.ds) ≡ pruned D (BFix c.in-Fix.i (rargs_of c.in-Fix.ds) (bodies_of (length c.in-Fix.ds) c.in-Fix.ds)) =
    fix_pruned D c.in-Fix.ds c.in-Fix.ds c.in-Fix.i (sym d ∙ c.in_ok-defs-in-Fix.ensures.ok) in
    let whole : c.args.t.now ≡ pruned D c.args.t.now = subst (λ t. t ≡ pruned D t) q same in
    let none : None ≡ spine c.args.t.now = ap spine q in
    if_ok_map c.same-then-share_defs.result (λ u h. (h.0 ∙ whole, h.1 ∙ none)) c.same-then-share_defs.ensures.ok

pub prune_head-made-requires-in-Fix : goal.prune_head-made-requires-in-Fix
prune_head-made-requires-in-Fix t c =
    let D = is_place (get nat_eq c.args.table.now) in
    let e : box_of c.view.result.now ≡ BFix c.in-Fix.i (rargs_of c.in-Fix.ds) (bodies_of (length c.in-Fix.ds) c.in-Fix.ds) = ap box_of c.in-Fix.is in
    record { is = fix_pruned D c.in-Fix.ds c.in_ok-defs-in-Fix.defs c.in-Fix.i c.in_ok-defs-in-Fix.ensures.ok ∙ ap (pruned D) (sym e ∙ c.view.ensures.is) }
