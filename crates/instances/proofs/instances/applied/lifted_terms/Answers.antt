use Rattle.std.proofs.Common.{◌<◌, length, arith}
use Rattle.std.proofs.lemmas.Result.{err_from_is_err_and}
use Rattle.trees.proofs.Cutoffs.{lift-shift}
use Rattle.pc_terms.specs.Syntax.{shift}
use Rattle.instances.proofs.Beyond.{any_beyond-one}
use Rattle.instances.proofs.instances.applied.lifted_terms.Goals as goal

pub returns-in_err-lifted-clause-too_deep : goal.returns-in_err-lifted-clause-too_deep
returns-in_err-lifted-clause-too_deep c =
    let p = err_from_is_err_and c.from_residual.result c.from_residual.ensures.1 in
    let lt : c.loop-item.item-index < length c.args.items.now = grind arith in
    rw (p.1, p.2) (λ e. any_beyond-one (shift c.args.count 0) c.args.items.now c.loop-item.item-index c.item-item.result (cc) lt
    (rw (lift-shift c.args.count 0 c.item-item.result) at (c.in_err-lifted.ensures.too_deep e)))
