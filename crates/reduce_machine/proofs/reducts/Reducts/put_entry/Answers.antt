use Rattle.std.proofs.Common.{sym, subst as along}
use Rattle.reduce_machine.specs.Reducts.{AreReducts}
use Rattle.reduce_machine.proofs.reducts.Reducts.put_entry.Goals as goal

pub returns-in-Some-clause-kept : goal.returns-in-Some-clause-kept
returns-in-Some-clause-kept c = λ E V h k. c.replace.ensures.kept E V (along (λ l. AreReducts E V l.items) (sym c.unused.ensures.entries) h) k

pub returns-in-None-clause-kept : goal.returns-in-None-clause-kept
returns-in-None-clause-kept c = λ E V h k. c.add.ensures.kept E V (along (λ l. AreReducts E V l.items) (sym c.unused.ensures.entries) h) k
