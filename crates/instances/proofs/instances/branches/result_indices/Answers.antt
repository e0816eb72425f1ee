use Rattle.std.proofs.Common.{◌<◌, length, arith}
use Rattle.std.proofs.lemmas.Result.{err_from_is_err_and}
use Rattle.trees.proofs.Cutoffs.{subst_list-substitute}
use Rattle.pc_terms.specs.Syntax.{Rel, overs, put_all, substitute}
use Rattle.instances.proofs.Beyond.{any_beyond-one}
use Rattle.instances.proofs.instances.branches.result_indices.Goals as goal

pub returns-in_err-index-clause-too_deep : goal.returns-in_err-index-clause-too_deep
returns-in_err-index-clause-too_deep c =
    let p = err_from_is_err_and c.from_residual.result c.from_residual.ensures.1 in
    let lt : c.loop-index.index-index < length c.args.ctor.now.result = grind arith in
    rw (p.1, p.2) (λ e. any_beyond-one (substitute (overs (length c.args.ctor.now.args) (put_all c.args.params.now Rel))) c.args.ctor.now.result
    c.loop-index.index-index c.index-item.result (cc) lt
    (rw (subst_list-substitute c.args.params.now c.args.count c.index-item.result, c.requires.count) at (c.in_err-index.ensures.too_deep e)))
