use Rattle.reduce_machine.proofs.Closing.{entry_is}
use Rattle.reduce_machine.proofs.reducts.Reducts.put.Goals as goal

pub returns-in-Some-clause-kept : goal.returns-in-Some-clause-kept
returns-in-Some-clause-kept c = λ E V h k.
    c.put_entry.ensures.kept E V h
    (entry_is E V (record { own = c.in-Ok.own; units = c.args.units; term = c.in-Ok-share.term }) c.args.memo.now c.args.term.now c.requires.units c.in-Ok.ensures.ok
    c.in-Ok-share.ensures.ok k)

pub returns-in_default-put_entry-clause-kept : goal.returns-in_default-put_entry-clause-kept
returns-in_default-put_entry-clause-kept c = λ E V h k.
    c.put_entry.ensures.kept E V h
    (entry_is E V (record { own = c.in-Ok.own; units = c.args.units; term = c.in-Ok-share.term }) c.args.memo.now c.args.term.now c.requires.units c.in-Ok.ensures.ok
    c.in-Ok-share.ensures.ok k)
