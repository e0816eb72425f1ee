use Rattle.std.proofs.Common.{◌≡◌, inl, inr, ◌<◌, length, arith}
use Rattle.std.proofs.lemmas.Result.{err_from_is_err_and}
use Rattle.trees.specs.Substitution.{walk, lift_var}
use Rattle.pc_terms.specs.Lists.{walk_branch, walk_def}
use Rattle.pc_terms.proofs.Parts.{beyond_trees-one, beyond_arms-one, beyond_defs-one}
use Rattle.pc_terms.proofs.term.+lift.Goals as goal

pub Terms::lift_above-returns-in_err-t-clause-too_deep : goal.Terms::lift_above-returns-in_err-t-clause-too_deep
Terms::lift_above-returns-in_err-t-clause-too_deep t c =
    let p = err_from_is_err_and c.from_residual.result c.from_residual.ensures.1 in
    let lt : c.loop-t.t-index < length c.args.self.now = grind arith in
    rw (p.1, p.2) (λ e. beyond_trees-one (walk (lift_var c.args.k) c.args.n) c.args.self.now c.loop-t.t-index c.t-item.result (cc) lt (c.in_err-t.ensures.too_deep e))

pub Branches::lift_above-returns-in_err-body-clause-too_deep : goal.Branches::lift_above-returns-in_err-body-clause-too_deep
Branches::lift_above-returns-in_err-body-clause-too_deep t c =
    let p = err_from_is_err_and c.from_residual.result c.from_residual.ensures.1 in
    let lt : c.loop-b.b-index < length c.args.self.now = grind arith in
    rw (p.1, p.2) (λ e. beyond_arms-one (walk_branch (lift_var c.args.k) c.args.n) c.args.self.now c.loop-b.b-index c.b-item.result (cc) lt (rw c.from.ensures at (c.in_err-body.ensures.too_deep e)))

pub Defs::lift_above-returns-in_err-ty-clause-too_deep : goal.Defs::lift_above-returns-in_err-ty-clause-too_deep
Defs::lift_above-returns-in_err-ty-clause-too_deep t c =
    let p = err_from_is_err_and c.from_residual.result c.from_residual.ensures.1 in
    let lt : c.loop-d.d-index < length c.args.self.now = grind arith in
    rw (p.1, p.2) (λ e. beyond_defs-one (walk_def (lift_var c.args.k) c.args.n (length c.args.self.now)) c.args.self.now c.loop-d.d-index c.d-item.result (cc) lt (inl (c.in_err-ty.ensures.too_deep e)))

pub Defs::lift_above-returns-in_err-body-clause-too_deep : goal.Defs::lift_above-returns-in_err-body-clause-too_deep
Defs::lift_above-returns-in_err-body-clause-too_deep t c =
    let p = err_from_is_err_and c.from_residual-in_err-body.result c.from_residual-in_err-body.ensures.1 in
    let lt : c.loop-d.d-index < length c.args.self.now = grind arith in
    let same : c.len.result ≡ length c.args.self.now = cc in
    rw (p.1, p.2) (λ e. beyond_defs-one (walk_def (lift_var c.args.k) c.args.n (length c.args.self.now)) c.args.self.now c.loop-d.d-index c.d-item.result (cc) lt (inr (rw same at (c.in_err-body.ensures.too_deep e))))
