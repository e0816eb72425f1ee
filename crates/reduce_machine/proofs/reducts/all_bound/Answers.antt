use Rattle.std.proofs.Common.{◌<◌, ◌≤◌, length, map, ap, arith}
use Rattle.pc_terms.specs.Syntax.{Rel, put_all}
use Rattle.reduce_machine.specs.Reads.{stands, read}
use Rattle.reduce_machine.proofs.Binding.{bind_more, bind_done}
use Rattle.reduce_machine.proofs.reducts.all_bound.Goals as goal

pub next-init : goal.next-init
next-init c = ap (λ xs. put_all (map read c.args.items.now) (stands xs)) c.new-env.ensures.items

pub next-preserved : goal.next-preserved
next-preserved c =
    let lt : c.next.i < length c.args.items.now = grind arith in
    bind_more c.args.items.now c.next.i _ c.in_ok-item.item c.next.env.items c.in_ok-env.env.items _ (cc) lt c.in_ok-item.ensures.ok c.in_ok-env.ensures.items
    c.next.invariant

pub returns : goal.returns
returns c =
    let le : length c.args.items.now ≤ c.next.i = grind arith in
    record { ok = bind_done c.args.items.now c.next.i (stands c.next.env.items) _ le c.next.invariant }
