use Rattle.std.proofs.Common.{◌<◌, length, arith}
use Rattle.pc_rules.proofs.Collected.{extend_next}
use Rattle.instances.proofs.contexts.extended.Goals as goal

pub loop-i-preserved : goal.loop-i-preserved
loop-i-preserved c =
    let lt : c.loop-i.i < length c.as_slice-items.result.now = grind arith in
    let next = extend_next c.args.ctx.now c.as_slice-items.result.now c.loop-i.i c.index-items-i.result lt c.index-items-i.is in
    let longer = c.in_ok-out-2.ensures.longer in
    let ty = c.in_ok-ty.ensures.ok in
    let before = c.loop-i.invariant in
    cc
