use Rattle.std.proofs.Common.{rules, ◌≡◌, ◌<◌, ◌≤◌, ◌∙◌, ℕ, length, refl, sym, ap, arith, subst as along}
use Rattle.trees.specs.Tree.{terms_of}
use Rattle.trees.specs.Measures.{depth, depth_trees}
use Rattle.trees.specs.Substitution.{walk}
use Rattle.pc_terms.specs.Lists.{arms_of, depth_defs}
use Rattle.std.proofs.lemmas.Result.{err_from_is_err_and}
use Rattle.pc_terms.specs.View.{tree_of}
use Rattle.pc_rules.proofs.SameTrees.{false_true}
use Rattle.reduce_machine.specs.Reads.{read}
use Rattle.pc_terms.proofs.Depths.{term_in, body_in, type_in, definition_in}
use Rattle.lazy_conversion.specs.Lifted.{lifted_under, seen}
use Rattle.lazy_conversion.specs.Walked.{walk_node, match_seen, branch_seen, def_seen}
use Rattle.lazy_conversion.specs.Deep.{AreDeepDef}
use Rattle.lazy_conversion.proofs.Deciding.{one_term, may_be_one}
use Rattle.lazy_conversion.proofs.Lifting.{items_one, items_lifted}
use Rattle.lazy_conversion.proofs.Deepening.{answered, faulted, nodes_deep, lists_deep, arms_deep, defs_deep, around_deep, no_one}
use Rattle.lazy_conversion.proofs.Noding.{nodes_same, node_tree}
use Rattle.lazy_conversion.proofs.Pairing.{items_same}
use Rattle.lazy_conversion.proofs.sameness.+sameness.Goals as goal

pub same_at-returns-clause-ok : goal.same_at-returns-clause-ok
same_at-returns-clause-ok t c = answered _ _ c.same_nodes.result (λ r h. nodes_same (lifted_under c.args.p.now.lifted c.args.p.now.env.now.items) (lifted_under c.args.q.now.lifted c.args.q.now.env.now.items) c.args.p.now.under c.args.q.now.under
    c.view-x.result.now c.view-y.result.now c.args.a.now c.args.b.now c.view-x.ensures.is c.view-y.ensures.is c.in_default.not-Rel c.in_default-y.not-Rel r h) c.same_nodes.ensures.ok

pub same_at-returns-clause-too_deep : goal.same_at-returns-clause-too_deep
same_at-returns-clause-too_deep t c =
    let f = lifted_under c.args.p.now.lifted c.args.p.now.env.now.items in
    let g = lifted_under c.args.q.now.lifted c.args.q.now.env.now.items in
    let x : tree_of (walk_node f c.args.p.now.under c.view-x.result.now) ≡ walk f c.args.p.now.under c.args.a.now =
    node_tree f c.args.p.now.under c.view-x.result.now c.in_default.not-Rel ∙ ap (walk f c.args.p.now.under) c.view-x.ensures.is in
    let y : tree_of (walk_node g c.args.q.now.under c.view-y.result.now) ≡ walk g c.args.q.now.under c.args.b.now =
    node_tree g c.args.q.now.under c.view-y.result.now c.in_default-y.not-Rel ∙ ap (walk g c.args.q.now.under) c.view-y.ensures.is in
    faulted _ _ c.same_nodes.result (nodes_deep c.args.at _ _ _ _ x y) c.same_nodes.ensures.too_deep

-- lists

pub same_lists-same_at-requires : goal.same_lists-same_at-requires
same_lists-same_at-requires t c =
    let l : c.loop-i.i < length c.args.a.now = grind arith in
    let r : c.loop-i.i < length c.args.b.now = grind arith in
    let left : depth c.index-xs-i.result ≤ depth_trees (terms_of c.args.a.now) = term_in c.args.a.now c.loop-i.i c.index-xs-i.result l (cc) in
    let right : depth c.index-ys-i.result ≤ depth_trees (terms_of c.args.b.now) = term_in c.args.b.now c.loop-i.i c.index-ys-i.result r (cc) in
    search (rules, left, right)

pub same_lists-returns-in_err-one-clause-too_deep : goal.same_lists-returns-in_err-one-clause-too_deep
same_lists-returns-in_err-one-clause-too_deep t c =
    let p = err_from_is_err_and c.from_residual.result c.from_residual.ensures.1 in
    let l : c.loop-i.i < length c.args.a.now = grind arith in
    let r : c.loop-i.i < length c.args.b.now = grind arith in
    let h = c.in_err-one.ensures.too_deep in
    rw (p.1, p.2) (h.0, lists_deep c.args.at (seen c.args.p.now) (seen c.args.q.now) c.args.a.now c.args.b.now c.loop-i.i c.index-xs-i.result c.index-ys-i.result (cc) (cc) l r h.1)

pub same_lists-returns-then-not-one-clause-ok : goal.same_lists-returns-then-not-one-clause-ok
same_lists-returns-then-not-one-clause-ok t c =
    let l : c.loop-i.i < length c.args.a.now = grind arith in
    (λ z. false_true z, λ e. (no_one c.in_ok-one.one c.if-not-one.true c.in_ok-one.ensures.ok) (items_same (seen c.args.p.now) (seen c.args.q.now) c.args.a.now c.args.b.now c.loop-i.i c.index-xs-i.result c.index-ys-i.result (cc) (cc) l e))

pub same_branches-same_branch-requires : goal.same_branches-same_branch-requires
same_branches-same_branch-requires t c =
    let l : c.loop-i.i < length c.args.a.now = grind arith in
    let r : c.loop-i.i < length c.args.b.now = grind arith in
    let left : depth c.index-xs-i.result.body ≤ depth_trees (arms_of c.args.a.now) = body_in c.args.a.now c.loop-i.i c.index-xs-i.result l (cc) in
    let right : depth c.index-ys-i.result.body ≤ depth_trees (arms_of c.args.b.now) = body_in c.args.b.now c.loop-i.i c.index-ys-i.result r (cc) in
    search (rules, left, right)

pub same_branches-returns-in_err-one-clause-too_deep : goal.same_branches-returns-in_err-one-clause-too_deep
same_branches-returns-in_err-one-clause-too_deep t c =
    let p = err_from_is_err_and c.from_residual.result c.from_residual.ensures.1 in
    let l : c.loop-i.i < length c.args.a.now = grind arith in
    let r : c.loop-i.i < length c.args.b.now = grind arith in
    let h = c.in_err-one.ensures.too_deep in
    rw (p.1, p.2) (h.0, arms_deep c.args.at (branch_seen c.args.p.now) (branch_seen c.args.q.now) c.args.a.now c.args.b.now c.loop-i.i c.index-xs-i.result c.index-ys-i.result (cc) (cc) l r h.1)

pub same_branches-returns-then-not-one-clause-ok : goal.same_branches-returns-then-not-one-clause-ok
same_branches-returns-then-not-one-clause-ok t c =
    let l : c.loop-i.i < length c.args.a.now = grind arith in
    (λ z. false_true z, λ e. (no_one c.in_ok-one.one c.if-not-one.true c.in_ok-one.ensures.ok) (items_same (branch_seen c.args.p.now) (branch_seen c.args.q.now) c.args.a.now c.args.b.now c.loop-i.i c.index-xs-i.result c.index-ys-i.result (cc) (cc) l e))

pub same_defs-same_def-requires : goal.same_defs-same_def-requires
same_defs-same_def-requires t c =
    let l : c.loop-i.i < length c.args.a.now = grind arith in
    let r : c.loop-i.i < length c.args.b.now = grind arith in
    let left : depth c.index-xs-i.result.ty ≤ depth_defs c.args.a.now = type_in c.args.a.now c.loop-i.i c.index-xs-i.result l (cc) in
    let left_body : depth c.index-xs-i.result.body ≤ depth_defs c.args.a.now = definition_in c.args.a.now c.loop-i.i c.index-xs-i.result l (cc) in
    let right : depth c.index-ys-i.result.ty ≤ depth_defs c.args.b.now = type_in c.args.b.now c.loop-i.i c.index-ys-i.result r (cc) in
    let right_body : depth c.index-ys-i.result.body ≤ depth_defs c.args.b.now = definition_in c.args.b.now c.loop-i.i c.index-ys-i.result r (cc) in
    search (rules, left, left_body, right, right_body)

pub same_defs-returns-in_err-one-clause-too_deep : goal.same_defs-returns-in_err-one-clause-too_deep
same_defs-returns-in_err-one-clause-too_deep t c =
    let p = err_from_is_err_and c.from_residual.result c.from_residual.ensures.1 in
    let l : c.loop-i.i < length c.args.a.now = grind arith in
    let r : c.loop-i.i < length c.args.b.now = grind arith in
    let n : length c.as_slice-xs.result.now ≡ length c.args.a.now = ap length c.as_slice-xs.ensures.is in
    let m : length c.as_slice-xs.result.now ≡ length c.args.b.now = grind arith in
    let x = c.index-xs-i.result in
    let y = c.index-ys-i.result in
    let h = c.in_err-one.ensures.too_deep in
    let h1 = along (λ (j : ℕ). AreDeepDef c.args.at (def_seen c.args.p.now j x) (def_seen c.args.q.now (length c.as_slice-xs.result.now) y)) n h.1 in
    let h2 = along (λ (j : ℕ). AreDeepDef c.args.at (def_seen c.args.p.now (length c.args.a.now) x) (def_seen c.args.q.now j y)) m h1 in
    rw (p.1, p.2) (h.0, defs_deep c.args.at (def_seen c.args.p.now (length c.args.a.now)) (def_seen c.args.q.now (length c.args.b.now)) c.args.a.now c.args.b.now c.loop-i.i x y (cc) (cc) l r h2)

pub same_defs-returns-then-not-one-clause-ok : goal.same_defs-returns-then-not-one-clause-ok
same_defs-returns-then-not-one-clause-ok t c =
    let l : c.loop-i.i < length c.args.a.now = grind arith in
    let n : length c.as_slice-xs.result.now ≡ length c.args.a.now = ap length c.as_slice-xs.ensures.is in
    let m : length c.as_slice-xs.result.now ≡ length c.args.b.now = grind arith in
    let x = c.index-xs-i.result in
    let y = c.index-ys-i.result in (
      λ z. false_true z,
      λ e. (no_one c.in_ok-one.one c.if-not-one.true c.in_ok-one.ensures.ok) (ap (λ (j : ℕ). def_seen c.args.p.now j x) n
          ∙ items_same (def_seen c.args.p.now (length c.args.a.now)) (def_seen c.args.q.now (length c.args.b.now)) c.args.a.now c.args.b.now c.loop-i.i x y (cc) (cc) l e
          ∙ sym (ap (λ (j : ℕ). def_seen c.args.q.now j y) m)),
    )

pub same_whole-returns-in_err-around-clause-too_deep : goal.same_whole-returns-in_err-around-clause-too_deep
same_whole-returns-in_err-around-clause-too_deep t c =
    let p = err_from_is_err_and c.from_residual.result c.from_residual.ensures.1 in
    let h = c.in_err-around.ensures.too_deep in
    rw (p.1, p.2) (h.0, around_deep c.args.at (match_seen c.args.p.now c.args.a.now) (match_seen c.args.q.now c.args.b.now) (seen c.args.p.now c.args.a.now.scrut) (seen c.args.q.now c.args.b.now.scrut) h.1)

-- items

pub same_items-returns-then-are_joined-clause-ok : goal.same_items-returns-then-are_joined-clause-ok
same_items-returns-then-are_joined-clause-ok t c =
    let d : c.args.lifted ≡ c.args.other_lifted = search rules in
    let e : read c.args.item.now ≡ read c.args.other.now =
    one_term c.args.memo.now c.args.other_memo.now (read c.args.item.now) (read c.args.other.now) (c.are_joined.ensures.joined c.if-are_joined.true) c.requires.left_memo c.requires.right_memo in
    let s = items_lifted c.args.lifted c.args.item.now c.args.other.now e ∙ ap (λ (n : ℕ). walk (lifted_under n c.args.other.now.env.items) 0 c.args.other.now.term) d in
    (λ _. s, λ _. refl)

pub same_items-join-requires : goal.same_items-join-requires
same_items-join-requires t c =
    let d : c.args.lifted ≡ c.args.other_lifted = search rules in
    let s = (c.in_ok-one.ensures.ok.0 (search rules)) ∙ sym (ap (λ (n : ℕ). walk (lifted_under n c.args.other.now.env.items) 0 c.args.other.now.term) d) in
    let e : read c.args.item.now ≡ read c.args.other.now = items_one c.args.lifted c.args.item.now c.args.other.now s in
    record { one = may_be_one c.args.memo.now c.args.other_memo.now (read c.args.item.now) (read c.args.other.now) e c.requires.left_memo c.requires.right_memo }
