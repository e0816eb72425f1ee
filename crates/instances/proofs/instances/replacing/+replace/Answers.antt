use Rattle.std.proofs.Common.{inl, inr, ◌<◌, length, arith}
use Rattle.std.proofs.lemmas.Result.{err_from_is_err_and}
use Rattle.trees.specs.Substitution.{walk}
use Rattle.pc_terms.specs.Lists.{walk_branch, walk_def}
use Rattle.pc_terms.proofs.Parts.{beyond_trees-one, beyond_arms-one, beyond_defs-one}
use Rattle.instances.specs.Replacing.{replaced_var}
use Rattle.instances.proofs.instances.replacing.+replace.Goals as goal

pub terms_above-returns-in_err-t-clause-too_deep : goal.terms_above-returns-in_err-t-clause-too_deep
terms_above-returns-in_err-t-clause-too_deep t c =
    let p = err_from_is_err_and c.from_residual.result c.from_residual.ensures.1 in
    let lt : c.loop-t.t-index < length c.args.ts.now = grind arith in
    rw (p.1, p.2) (λ e. beyond_trees-one (walk (replaced_var c.args.list.now c.args.raise) c.args.k) c.args.ts.now c.loop-t.t-index c.t-item.result (cc) lt (c.in_err-t.ensures.too_deep e))

pub branches_above-returns-in_err-body-clause-too_deep : goal.branches_above-returns-in_err-body-clause-too_deep
branches_above-returns-in_err-body-clause-too_deep t c =
    let p = err_from_is_err_and c.from_residual.result c.from_residual.ensures.1 in
    let lt : c.loop-b.b-index < length c.args.bs.now = grind arith in
    rw (p.1, p.2) (λ e. beyond_arms-one (walk_branch (replaced_var c.args.list.now c.args.raise) c.args.k) c.args.bs.now c.loop-b.b-index c.b-item.result (cc) lt (rw c.from.ensures at (c.in_err-body.ensures.too_deep e)))

pub defs_above-returns-in_err-ty-clause-too_deep : goal.defs_above-returns-in_err-ty-clause-too_deep
defs_above-returns-in_err-ty-clause-too_deep t c =
    let p = err_from_is_err_and c.from_residual.result c.from_residual.ensures.1 in
    let lt : c.loop-d.d-index < length c.args.ds.now = grind arith in
    rw (p.1, p.2) (λ e. beyond_defs-one (walk_def (replaced_var c.args.list.now c.args.raise) c.args.k (length c.args.ds.now)) c.args.ds.now c.loop-d.d-index c.d-item.result (cc) lt (inl (c.in_err-ty.ensures.too_deep e)))

pub defs_above-returns-in_err-body-clause-too_deep : goal.defs_above-returns-in_err-body-clause-too_deep
defs_above-returns-in_err-body-clause-too_deep t c =
    let p = err_from_is_err_and c.from_residual-in_err-body.result c.from_residual-in_err-body.ensures.1 in
    let lt : c.loop-d.d-index < length c.args.ds.now = grind arith in
    rw (p.1, p.2) (λ e. beyond_defs-one (walk_def (replaced_var c.args.list.now c.args.raise) c.args.k (length c.args.ds.now)) c.args.ds.now c.loop-d.d-index c.d-item.result (cc) lt (inr (c.in_err-body.ensures.too_deep e)))
