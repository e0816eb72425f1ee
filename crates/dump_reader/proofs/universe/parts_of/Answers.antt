use Rattle.std.proofs.Common.{rules}
use Rattle.dump_reader.proofs.Universes.{first-part, next-part}
use Rattle.dump_reader.proofs.universe.parts_of.Goals as goal

pub loop-part-init : goal.loop-part-init
loop-part-init c = first-part c.args.first.now c.push.new.self.items c.in_ok-item.item (search rules) c.in_ok-item.ensures.made

pub loop-part-preserved : goal.loop-part-preserved
loop-part-preserved c = next-part c.args.first.now c.args.more.now c.loop-part.part-index _ c.loop-part.items.items c.push-in-loop-part.new.self.items c.in_ok-item-2.item c.loop-part-test.true (search rules) c.loop-part.invariant c.in_ok-item-2.ensures.made
