use Rattle.std.proofs.Common.{◌<◌, None, length, arith}
use Rattle.std.proofs.lemmas.Result.{err_from_is_err_and}
use Rattle.reduce_machine.specs.Spines.{nested, below_term}
use Rattle.reduce_machine.proofs.Nesting.{read_on, read_deep}
use Rattle.reduce_machine.proofs.seen.Seen.read.Goals as goal

pub returns-in_err-term-clause-too_deep : goal.returns-in_err-term-clause-too_deep
returns-in_err-term-clause-too_deep c =
    let p = err_from_is_err_and c.from_residual.result c.from_residual.ensures.1 in
    let lt : c.loop-spine.spine-index < length c.args.self.now.below.now = grind arith in
    let k = read_on c.args.self.now.below.now c.loop-spine.spine-index c.spine-item.result c.args.self.now.spine.now c.loop-spine.inner (cc) lt c.loop-spine.invariant.rest in
    rw (p.1, p.2) (λ e. read_deep c.args.self.now.below.now c.loop-spine.spine-index c.spine-item.result c.args.self.now.spine.now (below_term c.loop-spine.inner)
    (nested c.args.self.now.below.now (below_term None)) (cc) lt k.1 c.loop-spine.invariant.term (c.in_err-term.ensures.too_deep e))
