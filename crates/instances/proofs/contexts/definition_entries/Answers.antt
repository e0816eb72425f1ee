use Rattle.std.proofs.Common.{◌<◌, length, arith}
use Rattle.std.proofs.lemmas.Result.{err_from_is_err_and}
use Rattle.pc_rules.proofs.Collected.{lifted_next, lifted_beyond}
use Rattle.instances.proofs.contexts.definition_entries.Goals as goal

pub returns-in_err-ty-clause-too_deep : goal.returns-in_err-ty-clause-too_deep
returns-in_err-ty-clause-too_deep c =
    let p = err_from_is_err_and c.from_residual.result c.from_residual.ensures.1 in
    let lt : c.loop-i.i < length c.args.defs.now = grind arith in
    rw (p.1, p.2) (λ e. lifted_beyond c.args.defs.now c.loop-i.i c.index-items-i.result lt (cc) (rw (← c.index-items-i.is) at (c.in_err-ty.ensures.too_deep e)))

pub loop-i-preserved : goal.loop-i-preserved
loop-i-preserved c =
    let lt : c.loop-i.i < length c.as_slice-items.result.now = grind arith in
    let next = lifted_next c.as_slice-items.result.now c.loop-i.i c.index-items-i.result lt c.index-items-i.is in
    let pushed = c.in_ok-push.ensures.ok in
    let ty = c.in_ok-ty.ensures.parallel in
    let before = c.loop-i.invariant in
    cc
