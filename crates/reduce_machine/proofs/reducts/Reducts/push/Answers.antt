use Rattle.std.proofs.Common.{is_ok}
use Rattle.reduce_machine.proofs.Keeping.{reducts_pushed}
use Rattle.reduce_machine.proofs.reducts.Reducts.push.Goals as goal

pub returns-clause-kept : goal.returns-clause-kept
returns-clause-kept c = λ E V h k. reducts_pushed E V c.args.self.now.entries.items c.push.new.self.items c.args.entry (is_ok c.push.result) c.push.ensures.items h k
