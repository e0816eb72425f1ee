use Rattle.std.proofs.Common.{◌<◌, length, arith}
use Rattle.pc_rules.proofs.Collected.{bodies_next}
use Rattle.conversion.proofs.definitions.bodies.Goals as goal

pub loop-i-preserved : goal.loop-i-preserved
loop-i-preserved c =
    let lt : c.loop-i.i < length c.as_slice-items.result.now = grind arith in
    let next = bodies_next (length c.as_slice-items.result.now) c.as_slice-items.result.now c.loop-i.i c.index-items-i.result lt c.index-items-i.is in
    let pushed = c.in_ok-push.ensures.ok in
    let body = c.in_ok-body.ensures.ok in
    let before = c.loop-i.invariant in
    cc
