use Rattle.std.proofs.Common.{◌≡◌, inl, inr, ◌<◌, length, arith}
use Rattle.std.proofs.lemmas.Result.{err_from_is_err_and}
use Rattle.trees.specs.Substitution.{walk, subst_list_var}
use Rattle.pc_terms.specs.Lists.{walk_branch, walk_def}
use Rattle.pc_terms.proofs.Parts.{beyond_trees-one, beyond_arms-one, beyond_defs-one}
use Rattle.pc_terms.proofs.term.+subst_list.Goals as goal

pub Terms::subst_list_above-returns-in_err-t-clause-too_deep : goal.Terms::subst_list_above-returns-in_err-t-clause-too_deep
Terms::subst_list_above-returns-in_err-t-clause-too_deep t c =
    let p = err_from_is_err_and c.from_residual.result c.from_residual.ensures.1 in
    let lt : c.loop-t.t-index < length c.args.self.now = grind arith in
    rw (p.1, p.2) (λ e. beyond_trees-one (walk (subst_list_var c.args.xs.now) c.args.k) c.args.self.now c.loop-t.t-index c.t-item.result (cc) lt (c.in_err-t.ensures.too_deep e))

pub Branches::subst_list_above-returns-in_err-body-clause-too_deep : goal.Branches::subst_list_above-returns-in_err-body-clause-too_deep
Branches::subst_list_above-returns-in_err-body-clause-too_deep t c =
    let p = err_from_is_err_and c.from_residual.result c.from_residual.ensures.1 in
    let lt : c.loop-b.b-index < length c.args.self.now = grind arith in
    rw (p.1, p.2) (λ e. beyond_arms-one (walk_branch (subst_list_var c.args.xs.now) c.args.k) c.args.self.now c.loop-b.b-index c.b-item.result (cc) lt (rw c.from.ensures at (c.in_err-body.ensures.too_deep e)))

pub Defs::subst_list_above-returns-in_err-ty-clause-too_deep : goal.Defs::subst_list_above-returns-in_err-ty-clause-too_deep
Defs::subst_list_above-returns-in_err-ty-clause-too_deep t c =
    let p = err_from_is_err_and c.from_residual.result c.from_residual.ensures.1 in
    let lt : c.loop-d.d-index < length c.args.self.now = grind arith in
    rw (p.1, p.2) (λ e. beyond_defs-one (walk_def (subst_list_var c.args.xs.now) c.args.k (length c.args.self.now)) c.args.self.now c.loop-d.d-index c.d-item.result (cc) lt (inl (c.in_err-ty.ensures.too_deep e)))

pub Defs::subst_list_above-returns-in_err-body-clause-too_deep : goal.Defs::subst_list_above-returns-in_err-body-clause-too_deep
Defs::subst_list_above-returns-in_err-body-clause-too_deep t c =
    let p = err_from_is_err_and c.from_residual-in_err-body.result c.from_residual-in_err-body.ensures.1 in
    let lt : c.loop-d.d-index < length c.args.self.now = grind arith in
    let same : c.len.result ≡ length c.args.self.now = cc in
    rw (p.1, p.2) (λ e. beyond_defs-one (walk_def (subst_list_var c.args.xs.now) c.args.k (length c.args.self.now)) c.args.self.now c.loop-d.d-index c.d-item.result (cc) lt (inr (rw same at (c.in_err-body.ensures.too_deep e))))
