use Rattle.reduce_machine.specs.Values.{term_of}
use Rattle.reduce_machine.proofs.Meetings.{fix_unfolds, fix_stuck, fix_part}
use Rattle.reduce_machine.proofs.meeting.meet_fixpoint.Goals as goal

pub find_constructed-requires : goal.find_constructed-requires
find_constructed-requires c = c.requires.value

pub seen-requires : goal.seen-requires
seen-requires c = c.requires.node

pub bound-requires-clause-value : goal.bound-requires-clause-value
bound-requires-clause-value c = c.requires.value

pub bound-requires-clause-root : goal.bound-requires-clause-root
bound-requires-clause-root c = c.requires.root

pub under-requires-clause-value : goal.under-requires-clause-value
under-requires-clause-value c = c.requires.value

pub under-requires-clause-stuck : goal.under-requires-clause-stuck
under-requires-clause-stuck c = (c.requires.node, c.requires.waits)

pub returns-in-Some-clause-ok : goal.returns-in-Some-clause-ok
returns-in-Some-clause-ok c =
    λ V n. fix_unfolds c.args.env.now V c.args.fix c.args.before.items (term_of c.args.value) c.in_ok-argument.argument _ c.requires.node c.requires.waits
    c.in-Some.ensures.is c.in_ok-argument.ensures.ok c.seen.ensures.unfolds n

pub returns-in-Some-clause-keeps : goal.returns-in-Some-clause-keeps
returns-in-Some-clause-keeps c =
    record { node = c.requires.node; part = fix_part c.args.fix c.args.before.items (term_of c.args.value) }

pub returns-clause-ok : goal.returns-clause-ok
returns-clause-ok c =
    λ V n. fix_stuck c.args.env.now V c.args.fix c.args.before.items (term_of c.args.value) c.requires.waits c.in_default.ensures.is n

pub returns-clause-keeps : goal.returns-clause-keeps
returns-clause-keeps c = (c.in_ok-stuck.ensures.term, c.in_ok-stuck.ensures.value)
