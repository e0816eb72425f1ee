use Rattle.reduce_machine.proofs.Closing.{made_is}
use Rattle.reduce_machine.proofs.Meetings.{truly}
use Rattle.reduce_machine.proofs.reducts.Reducts.made_last.Goals as goal

pub returns-then-is_made : goal.returns-then-is_made
returns-then-is_made c = record {
  ok = made_is c.args.self.now.made _ c.in_ok-whole-in-Some.whole c.args.head.now c.args.count c.requires.ready.1 c.in-Some.is c.in_ok-whole-in-Some.ensures.ok
      (c.is_made.ensures.is (truly _ c.if-is_made.true));
}
