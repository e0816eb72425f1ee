use Rattle.std.proofs.Common.{◌<◌, length, arith}
use Rattle.reduce_machine.specs.Reads.{stands}
use Rattle.reduce_machine.proofs.Binding.{bind_start, bind_more}
use Rattle.reduce_machine.proofs.machine.Machine.bind.Goals as goal

pub next-init : goal.next-init
next-init c = bind_start c.as_slice-items.result.now c.args.params (stands c.args.env.items)

pub next-preserved : goal.next-preserved
next-preserved c =
    let lt : c.next.i < length c.as_slice-items.result.now = grind arith in
    bind_more c.as_slice-items.result.now c.next.i _ c.in_ok-item.item c.next.bound.items c.in_ok-bound.bound.items _ (cc) lt c.in_ok-item.ensures.ok
    c.in_ok-bound.ensures.items c.next.invariant
