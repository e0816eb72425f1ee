use Rattle.std.proofs.Common.{◌<◌, length, map, arith}
use Rattle.std.proofs.lemmas.Result.{err_from_is_err_and}
use Rattle.pc_terms.specs.Syntax.{apply}
use Rattle.reduce_machine.specs.Reads.{read}
use Rattle.reduce_machine.proofs.Arms.{item_deep, applied_deep}
use Rattle.reduce_machine.proofs.spines.applied.Goals as goal

pub returns-in_err-x-clause-too_deep : goal.returns-in_err-x-clause-too_deep
returns-in_err-x-clause-too_deep c =
    let p = err_from_is_err_and c.from_residual.result c.from_residual.ensures.1 in
    let lt : c.loop-x.x-index < length c.deref-x-items.result.now = grind arith in
    rw (p.1, p.2) (λ e. item_deep c.loop-x.term c.deref-x-items.result.now c.loop-x.x-index c.x-item.result (apply c.args.function (map read c.args.args.now.items)) (cc) lt
    c.loop-x.invariant (c.in_err-x.ensures.too_deep e))

pub returns-in_err-term-clause-too_deep : goal.returns-in_err-term-clause-too_deep
returns-in_err-term-clause-too_deep c =
    let p = err_from_is_err_and c.from_residual-in_err-term.result c.from_residual-in_err-term.ensures.1 in
    let lt : c.loop-x.x-index < length c.deref-x-items.result.now = grind arith in
    rw (p.1, p.2) (λ e. applied_deep c.loop-x.term c.in_ok-x.x c.deref-x-items.result.now c.loop-x.x-index c.x-item.result (apply c.args.function (map read c.args.args.now.items))
    (cc) lt c.in_ok-x.ensures.ok c.loop-x.invariant (c.in_err-term.ensures.too_deep e))
