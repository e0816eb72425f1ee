use Rattle.reduce_machine.proofs.reducts.Reducts.add.Goals as goal

pub returns-then-push-clause-kept : goal.returns-then-push-clause-kept
returns-then-push-clause-kept c = λ E V h k. c.push.ensures.kept E V (c.make_room.ensures.kept E V h) k

pub returns-clause-kept : goal.returns-clause-kept
returns-clause-kept c = λ E V h k. c.push.ensures.kept E V (c.make_room.ensures.kept E V h) k
