use Rattle.std.proofs.Common.{rules, arith, ◌≡◌, ◌<◌, ◌≤◌, ◌⊎◌, true, false, [], length, sym, ap, ◌∙◌, subst}
use Rattle.trees.specs.Measures.{depth, depth_trees}
use Rattle.box_terms.specs.BoxSyntax.{BCase, BFix}
use Rattle.box_terms.specs.BoxLists.{arms_of, bodies_of, rargs_of}
use Rattle.box_terms.specs.BoxView.{box_of}
use Rattle.lambda_box.specs.OrdinaryForm.{family_of}
use Rattle.lambda_box.specs.OrdinaryForm.{propositional_of}
use Rattle.box_passes.specs.PropMatch.{drop_matches}
use Rattle.box_passes.proofs.Dropping.{case_stays, case_several, fix_dropped}
use Rattle.box_terms.proofs.Items.{arm_is_less, body_is_less}
use Rattle.box_passes.proofs.prop_matches.+drop.Goals as goal

pub dropped-made-requires-then-arms-gt1 : goal.dropped-made-requires-then-arms-gt1
dropped-made-requires-then-arms-gt1 t c =
    let e : box_of c.view.result.now ≡ BCase c.in-Case.f c.in-Case.s (arms_of c.in-Case.bs) = ap box_of c.in-Case.is in
    let p : (propositional_of (family_of c.args.fs.now c.in-Case.f) ≡ true) × (0 < length c.in-Case.bs) = search rules in
    let l : 1 < length c.in-Case.bs = grind arith in
    record { is = case_several c.args.fs.now c.in-Case.f c.in-Case.s c.in-Case.bs p.0 l ∙ ap (drop_matches c.args.fs.now) (sym e ∙ c.view.ensures.is) }

pub dropped-returns-then-share_branches-clause-ok : goal.dropped-returns-then-share_branches-clause-ok
dropped-returns-then-share_branches-clause-ok t c =
    let e : box_of c.view.result.now ≡ BCase c.in-Case.f c.in-Case.s (arms_of c.in-Case.bs) = ap box_of c.in-Case.is in
    let p : (propositional_of (family_of c.args.fs.now c.in-Case.f) ≡ false) ⊎ (c.in-Case.bs ≡ []) = search rules in
    let s : c.in_ok-scrut-in-Case.scrut ≡ c.in-Case.s = search rules in
    let b : c.in_ok-branches-in-Case.branches ≡ c.in-Case.bs = search rules in
    let same : BCase c.in-Case.f c.in-Case.s (arms_of c.in-Case.bs) ≡ drop_matches c.args.fs.now (BCase c.in-Case.f c.in-Case.s (arms_of c.in-Case.bs)) =
    sym (ap (λ s. BCase c.in-Case.f s (arms_of c.in_ok-branches-in-Case.branches)) s ∙ ap (λ bs. BCase c.in-Case.f c.in-Case.s (arms_of bs)) b)
    ∙ case_stays c.args.fs.now c.in-Case.f c.in-Case.s c.in_ok-scrut-in-Case.scrut c.in-Case.bs c.in_ok-branches-in-Case.branches p c.in_ok-scrut-in-Case.ensures.ok c.in_ok-branches-in-Case.ensures.ok in
    let whole : c.args.t.now ≡ drop_matches c.args.fs.now c.args.t.now = subst (λ t. t ≡ drop_matches c.args.fs.now t) (sym e ∙ c.view.ensures.is) same in
    search (rules, whole)

pub dropped-made-requires-in-Case : goal.dropped-made-requires-in-Case
dropped-made-requires-in-Case t c =
    let e : box_of c.view.result.now ≡ BCase c.in-Case.f c.in-Case.s (arms_of c.in-Case.bs) = ap box_of c.in-Case.is in
    let p : (propositional_of (family_of c.args.fs.now c.in-Case.f) ≡ false) ⊎ (c.in-Case.bs ≡ []) = search rules in
    record {
      is = case_stays c.args.fs.now c.in-Case.f c.in-Case.s c.in_ok-scrut-in-Case.scrut c.in-Case.bs c.in_ok-branches-in-Case.branches p c.in_ok-scrut-in-Case.ensures.ok c.in_ok-branches-in-Case.ensures.ok
          ∙ ap (drop_matches c.args.fs.now) (sym e ∙ c.view.ensures.is);
    }

pub dropped-returns-then-share_defs-clause-ok : goal.dropped-returns-then-share_defs-clause-ok
dropped-returns-then-share_defs-clause-ok t c =
    let e : box_of c.view.result.now ≡ BFix c.in-Fix.i (rargs_of c.in-Fix.ds) (bodies_of (length c.in-Fix.ds) c.in-Fix.ds) = ap box_of c.in-Fix.is in
    let d : c.in_ok-defs-in-Fix.defs ≡ c.in-Fix.ds = search rules in
    let same : BFix c.in-Fix.i (rargs_of c.in-Fix.ds) (bodies_of (length c.in-Fix.ds) c.in-Fix.ds) ≡ drop_matches c.args.fs.now (BFix c.in-Fix.i (rargs_of c.in-Fix.ds) (bodies_of (length c.in-Fix.ds) c.in-Fix.ds)) =
    fix_dropped c.args.fs.now c.in-Fix.ds c.in-Fix.ds c.in-Fix.i (sym d ∙ c.in_ok-defs-in-Fix.ensures.ok) in
    let whole : c.args.t.now ≡ drop_matches c.args.fs.now c.args.t.now = subst (λ t. t ≡ drop_matches c.args.fs.now t) (sym e ∙ c.view.ensures.is) same in
    search (rules, whole)

pub dropped-made-requires-in-Fix : goal.dropped-made-requires-in-Fix
dropped-made-requires-in-Fix t c =
    let e : box_of c.view.result.now ≡ BFix c.in-Fix.i (rargs_of c.in-Fix.ds) (bodies_of (length c.in-Fix.ds) c.in-Fix.ds) = ap box_of c.in-Fix.is in
    record { is = fix_dropped c.args.fs.now c.in-Fix.ds c.in_ok-defs-in-Fix.defs c.in-Fix.i c.in_ok-defs-in-Fix.ensures.ok ∙ ap (drop_matches c.args.fs.now) (sym e ∙ c.view.ensures.is) }

pub dropped_branches-dropped-requires : goal.dropped_branches-dropped-requires
dropped_branches-dropped-requires t c =
    let l : c.loop-i.i < length c.as_slice-xs.result.now = grind arith in
    let d = subst (λ xs. depth c.index-xs-i.result.body ≤ depth_trees (arms_of xs)) c.as_slice-xs.ensures.is (arm_is_less c.as_slice-xs.result.now c.loop-i.i c.index-xs-i.result l c.index-xs-i.is) in
    search (rules, d)

pub dropped_defs-dropped-requires : goal.dropped_defs-dropped-requires
dropped_defs-dropped-requires t c =
    let l : c.loop-i.i < length c.as_slice-xs.result.now = grind arith in
    let d = subst (λ ds. depth c.index-xs-i.result.body ≤ depth_trees (bodies_of (length c.args.ds.now) ds)) c.as_slice-xs.ensures.is
    (body_is_less (length c.args.ds.now) c.as_slice-xs.result.now c.loop-i.i c.index-xs-i.result l c.index-xs-i.is) in
    search (rules, d)
