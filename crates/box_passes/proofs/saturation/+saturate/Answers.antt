use Rattle.std.proofs.Common.{rules, arith, ◌≡◌, ◌<◌, ◌≤◌, ◌+◌, length, refl, sym, ap, ◌∙◌, subst, IfOk, IfErr}
use Rattle.std.proofs.lemmas.Result.{err_from_is_err_and}
use Rattle.trees.specs.Measures.{depth, depth_trees, depth_limit}
use Rattle.box_terms.specs.BoxSyntax.{BCase, BFix}
use Rattle.box_terms.specs.BoxLists.{arms_of, bodies_of, rargs_of}
use Rattle.box_terms.specs.BoxView.{box_of}
use Rattle.lambda_box.specs.declared.fault.PassFault.TheVariants.{TooDeep}
use Rattle.box_passes.specs.Heads.{head, spare}
use Rattle.box_passes.specs.Maps.{map_branch, map_def}
use Rattle.box_terms.proofs.Items.{arm_is_less, body_is_less}
use Rattle.box_passes.proofs.Heading.{case_heads, fix_heads, branches_deep, defs_deep, arm_deep, def_deep}
use Rattle.box_passes.proofs.saturation.+saturate.Goals as goal

pub saturated-returns-in_err-branches-in-Case-clause-too_deep : goal.saturated-returns-in_err-branches-in-Case-clause-too_deep
saturated-returns-in_err-branches-in-Case-clause-too_deep t c =
    let e : box_of c.view.result.now ≡ BCase c.in-Case.f c.in-Case.s (arms_of c.in-Case.bs) = ap box_of c.in-Case.is in
    let at_t = sym e ∙ c.view.ensures.is in
    let p = err_from_is_err_and c.from_residual-in_err-branches-in-Case.result c.from_residual-in_err-branches-in-Case.ensures.1 in
    rw (p.1, p.2) (λ q. subst (λ t. depth_limit < depth (head c.args.fs.now t c.args.n)) at_t (branches_deep c.args.fs.now c.args.n c.in-Case.f c.in-Case.s c.in-Case.bs (c.in_err-branches-in-Case.ensures.too_deep q)))

pub saturated-returns-then-share_branches-clause-ok : goal.saturated-returns-then-share_branches-clause-ok
saturated-returns-then-share_branches-clause-ok t c =
    let e : box_of c.view.result.now ≡ BCase c.in-Case.f c.in-Case.s (arms_of c.in-Case.bs) = ap box_of c.in-Case.is in
    let at_t = sym e ∙ c.view.ensures.is in
    let s : c.in_ok-scrut-in-Case.scrut ≡ head c.args.fs.now c.in-Case.s 0 = search rules in
    let whole : BCase c.in-Case.f c.in_ok-scrut-in-Case.scrut (arms_of c.in_ok-branches-in-Case.branches) ≡ head c.args.fs.now c.args.t.now c.args.n =
    case_heads c.args.fs.now c.args.n c.in-Case.f c.in-Case.s c.in_ok-scrut-in-Case.scrut c.in-Case.bs c.in_ok-branches-in-Case.branches s c.in_ok-branches-in-Case.ensures.ok ∙ ap (λ t. head c.args.fs.now t c.args.n) at_t in
    let same_s : c.in_ok-scrut-in-Case.scrut ≡ c.in-Case.s = search rules in
    let same_b : c.in_ok-branches-in-Case.branches ≡ c.in-Case.bs = search rules in
    let mine : c.args.t.now ≡ BCase c.in-Case.f c.in_ok-scrut-in-Case.scrut (arms_of c.in_ok-branches-in-Case.branches) =
    sym (ap (λ s. BCase c.in-Case.f s (arms_of c.in_ok-branches-in-Case.branches)) same_s ∙ ap (λ bs. BCase c.in-Case.f c.in-Case.s (arms_of bs)) same_b ∙ at_t) in
    let all : c.args.t.now ≡ head c.args.fs.now c.args.t.now c.args.n = mine ∙ whole in
    let zero : 0 ≡ spare c.args.fs.now c.args.t.now c.args.n = subst (λ t. 0 ≡ spare c.args.fs.now t c.args.n) at_t refl in
    subst (λ u. IfOk c.same_head-then-share_branches.result (λ h. (h.term ≡ u) × (h.spare ≡ spare c.args.fs.now c.args.t.now c.args.n))) all
    (subst (λ k. IfOk c.same_head-then-share_branches.result (λ h. (h.term ≡ c.args.t.now) × (h.spare ≡ k))) zero c.same_head-then-share_branches.ensures.ok)

pub saturated-returns-in_err-defs-in-Fix-clause-too_deep : goal.saturated-returns-in_err-defs-in-Fix-clause-too_deep
saturated-returns-in_err-defs-in-Fix-clause-too_deep t c =
    let e : box_of c.view.result.now ≡ BFix c.in-Fix.i (rargs_of c.in-Fix.ds) (bodies_of (length c.in-Fix.ds) c.in-Fix.ds) = ap box_of c.in-Fix.is in
    let at_t = sym e ∙ c.view.ensures.is in
    let p = err_from_is_err_and c.from_residual-in_err-defs-in-Fix.result c.from_residual-in_err-defs-in-Fix.ensures.1 in
    rw (p.1, p.2) (λ q. subst (λ t. depth_limit < depth (head c.args.fs.now t c.args.n)) at_t (defs_deep c.args.fs.now c.args.n c.in-Fix.ds c.in-Fix.i (c.in_err-defs-in-Fix.ensures.too_deep q)))

pub saturated-returns-then-share_defs-clause-ok : goal.saturated-returns-then-share_defs-clause-ok
saturated-returns-then-share_defs-clause-ok t c =
    let e : box_of c.view.result.now ≡ BFix c.in-Fix.i (rargs_of c.in-Fix.ds) (bodies_of (length c.in-Fix.ds) c.in-Fix.ds) = ap box_of c.in-Fix.is in
    let at_t = sym e ∙ c.view.ensures.is in
    let whole : BFix c.in-Fix.i (rargs_of c.in_ok-defs-in-Fix.defs) (bodies_of (length c.in_ok-defs-in-Fix.defs) c.in_ok-defs-in-Fix.defs) ≡ head c.args.fs.now c.args.t.now c.args.n =
    fix_heads c.args.fs.now c.args.n c.in-Fix.ds c.in_ok-defs-in-Fix.defs c.in-Fix.i c.in_ok-defs-in-Fix.ensures.ok ∙ ap (λ t. head c.args.fs.now t c.args.n) at_t in
    let same_d : c.in_ok-defs-in-Fix.defs ≡ c.in-Fix.ds = search rules in
    let mine : c.args.t.now ≡ BFix c.in-Fix.i (rargs_of c.in_ok-defs-in-Fix.defs) (bodies_of (length c.in_ok-defs-in-Fix.defs) c.in_ok-defs-in-Fix.defs) = sym (ap (λ ds. BFix c.in-Fix.i (rargs_of ds) (bodies_of (length ds) ds)) same_d ∙ at_t) in
    let all : c.args.t.now ≡ head c.args.fs.now c.args.t.now c.args.n = mine ∙ whole in
    let zero : 0 ≡ spare c.args.fs.now c.args.t.now c.args.n = subst (λ t. 0 ≡ spare c.args.fs.now t c.args.n) at_t refl in
    subst (λ u. IfOk c.same_head-then-share_defs.result (λ h. (h.term ≡ u) × (h.spare ≡ spare c.args.fs.now c.args.t.now c.args.n))) all
    (subst (λ k. IfOk c.same_head-then-share_defs.result (λ h. (h.term ≡ c.args.t.now) × (h.spare ≡ k))) zero c.same_head-then-share_defs.ensures.ok)

pub saturated-returns-else-shares_node-6-clause-ok : goal.saturated-returns-else-shares_node-6-clause-ok
saturated-returns-else-shares_node-6-clause-ok t c =
    let e : box_of c.view.result.now ≡ BCase c.in-Case.f c.in-Case.s (arms_of c.in-Case.bs) = ap box_of c.in-Case.is in
    let at_t = sym e ∙ c.view.ensures.is in
    let s : c.in_ok-scrut-in-Case.field-0.term ≡ head c.args.fs.now c.in-Case.s 0 = search rules in
    let whole : BCase c.in-Case.f c.in_ok-scrut-in-Case.field-0.term (arms_of c.in_ok-branches-in-Case.branches) ≡ head c.args.fs.now c.args.t.now c.args.n =
    case_heads c.args.fs.now c.args.n c.in-Case.f c.in-Case.s c.in_ok-scrut-in-Case.field-0.term c.in-Case.bs c.in_ok-branches-in-Case.branches s c.in_ok-branches-in-Case.ensures.ok ∙ ap (λ t. head c.args.fs.now t c.args.n) at_t in
    let zero : 0 ≡ spare c.args.fs.now c.args.t.now c.args.n = subst (λ t. 0 ≡ spare c.args.fs.now t c.args.n) at_t refl in
    subst (λ u. IfOk c.head_of-in-Case.result (λ h. (h.term ≡ u) × (h.spare ≡ spare c.args.fs.now c.args.t.now c.args.n))) whole
    (subst (λ k. IfOk c.head_of-in-Case.result (λ h. (h.term ≡ BCase c.in-Case.f c.in_ok-scrut-in-Case.field-0.term (arms_of c.in_ok-branches-in-Case.branches)) × (h.spare ≡ k))) zero c.head_of-in-Case.ensures.ok)

pub saturated-returns-else-shares_node-6-clause-too_deep : goal.saturated-returns-else-shares_node-6-clause-too_deep
saturated-returns-else-shares_node-6-clause-too_deep t c =
    let e : box_of c.view.result.now ≡ BCase c.in-Case.f c.in-Case.s (arms_of c.in-Case.bs) = ap box_of c.in-Case.is in
    let at_t = sym e ∙ c.view.ensures.is in
    let s : c.in_ok-scrut-in-Case.field-0.term ≡ head c.args.fs.now c.in-Case.s 0 = search rules in
    let whole : BCase c.in-Case.f c.in_ok-scrut-in-Case.field-0.term (arms_of c.in_ok-branches-in-Case.branches) ≡ head c.args.fs.now c.args.t.now c.args.n =
    case_heads c.args.fs.now c.args.n c.in-Case.f c.in-Case.s c.in_ok-scrut-in-Case.field-0.term c.in-Case.bs c.in_ok-branches-in-Case.branches s c.in_ok-branches-in-Case.ensures.ok ∙ ap (λ t. head c.args.fs.now t c.args.n) at_t in
    subst (λ u. IfErr c.head_of-in-Case.result (λ e. e ≡ TooDeep → depth_limit < depth u)) whole c.head_of-in-Case.ensures.too_deep

pub saturated-returns-else-share_defs-clause-ok : goal.saturated-returns-else-share_defs-clause-ok
saturated-returns-else-share_defs-clause-ok t c =
    let e : box_of c.view.result.now ≡ BFix c.in-Fix.i (rargs_of c.in-Fix.ds) (bodies_of (length c.in-Fix.ds) c.in-Fix.ds) = ap box_of c.in-Fix.is in
    let at_t = sym e ∙ c.view.ensures.is in
    let whole : BFix c.in-Fix.i (rargs_of c.in_ok-defs-in-Fix.defs) (bodies_of (length c.in_ok-defs-in-Fix.defs) c.in_ok-defs-in-Fix.defs) ≡ head c.args.fs.now c.args.t.now c.args.n =
    fix_heads c.args.fs.now c.args.n c.in-Fix.ds c.in_ok-defs-in-Fix.defs c.in-Fix.i c.in_ok-defs-in-Fix.ensures.ok ∙ ap (λ t. head c.args.fs.now t c.args.n) at_t in
    let zero : 0 ≡ spare c.args.fs.now c.args.t.now c.args.n = subst (λ t. 0 ≡ spare c.args.fs.now t c.args.n) at_t refl in
    subst (λ u. IfOk c.head_of-in-Fix.result (λ h. (h.term ≡ u) × (h.spare ≡ spare c.args.fs.now c.args.t.now c.args.n))) whole
    (subst (λ k. IfOk c.head_of-in-Fix.result (λ h. (h.term ≡ BFix c.in-Fix.i (rargs_of c.in_ok-defs-in-Fix.defs) (bodies_of (length c.in_ok-defs-in-Fix.defs) c.in_ok-defs-in-Fix.defs)) × (h.spare ≡ k))) zero c.head_of-in-Fix.ensures.ok)

pub saturated-returns-else-share_defs-clause-too_deep : goal.saturated-returns-else-share_defs-clause-too_deep
saturated-returns-else-share_defs-clause-too_deep t c =
    let e : box_of c.view.result.now ≡ BFix c.in-Fix.i (rargs_of c.in-Fix.ds) (bodies_of (length c.in-Fix.ds) c.in-Fix.ds) = ap box_of c.in-Fix.is in
    let at_t = sym e ∙ c.view.ensures.is in
    let whole : BFix c.in-Fix.i (rargs_of c.in_ok-defs-in-Fix.defs) (bodies_of (length c.in_ok-defs-in-Fix.defs) c.in_ok-defs-in-Fix.defs) ≡ head c.args.fs.now c.args.t.now c.args.n =
    fix_heads c.args.fs.now c.args.n c.in-Fix.ds c.in_ok-defs-in-Fix.defs c.in-Fix.i c.in_ok-defs-in-Fix.ensures.ok ∙ ap (λ t. head c.args.fs.now t c.args.n) at_t in
    subst (λ u. IfErr c.head_of-in-Fix.result (λ e. e ≡ TooDeep → depth_limit < depth u)) whole c.head_of-in-Fix.ensures.too_deep

pub saturated_branches-saturated-requires : goal.saturated_branches-saturated-requires
saturated_branches-saturated-requires t c =
    let l : c.loop-i.i < length c.as_slice-xs.result.now = grind arith in
    let d = subst (λ xs. depth c.index-xs-i.result.body ≤ depth_trees (arms_of xs)) c.as_slice-xs.ensures.is (arm_is_less c.as_slice-xs.result.now c.loop-i.i c.index-xs-i.result l c.index-xs-i.is) in
    let room : 0 + depth c.index-xs-i.result.body ≤ depth_limit = omega (arith, d, c.requires.room) in
    search (rules, d, room)

pub saturated_branches-returns-in_err-body-clause-too_deep : goal.saturated_branches-returns-in_err-body-clause-too_deep
saturated_branches-returns-in_err-body-clause-too_deep t c =
    let p = err_from_is_err_and c.from_residual.result c.from_residual.ensures.1 in
    let lt : c.loop-i.i < length c.args.bs.now = grind arith in
    rw (p.1, p.2) (λ q. arm_deep (map_branch (λ t. head c.args.fs.now t 0)) c.args.bs.now c.loop-i.i c.index-xs-i.result lt (cc) (c.in_err-body.ensures.too_deep q))

pub saturated_defs-saturated-requires : goal.saturated_defs-saturated-requires
saturated_defs-saturated-requires t c =
    let l : c.loop-i.i < length c.as_slice-xs.result.now = grind arith in
    let d = subst (λ ds. depth c.index-xs-i.result.body ≤ depth_trees (bodies_of (length c.args.ds.now) ds)) c.as_slice-xs.ensures.is
    (body_is_less (length c.args.ds.now) c.as_slice-xs.result.now c.loop-i.i c.index-xs-i.result l c.index-xs-i.is) in
    let room : 0 + depth c.index-xs-i.result.body ≤ depth_limit = omega (arith, d, c.requires.room) in
    search (rules, d, room)

pub saturated_defs-returns-in_err-body-clause-too_deep : goal.saturated_defs-returns-in_err-body-clause-too_deep
saturated_defs-returns-in_err-body-clause-too_deep t c =
    let p = err_from_is_err_and c.from_residual.result c.from_residual.ensures.1 in
    let lt : c.loop-i.i < length c.args.ds.now = grind arith in
    rw (p.1, p.2) (λ q. def_deep (map_def (λ t. head c.args.fs.now t 0)) c.args.ds.now c.loop-i.i c.index-xs-i.result lt (cc) (c.in_err-body.ensures.too_deep q))
