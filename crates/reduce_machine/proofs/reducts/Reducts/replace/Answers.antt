use Rattle.reduce_machine.proofs.Keeping.{reducts_set}
use Rattle.reduce_machine.proofs.reducts.Reducts.replace.Goals as goal

pub returns-clause-kept : goal.returns-clause-kept
returns-clause-kept c = λ E V h k. reducts_set E V c.args.self.now.entries.items c.args.at c.args.entry h k
