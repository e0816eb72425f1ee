use Rattle.reduce_machine.specs.Reads.{read}
use Rattle.reduce_machine.proofs.reducts.Reducts.look.Goals as goal

pub returns-in-Some-2-clause-known : goal.returns-in-Some-2-clause-known
returns-in-Some-2-clause-known c = λ E V h.
    let k = rw c.in-Some-2.is at c.in_ok-known.ensures.is in
    let m = rw c.in-Some.is at c.requires.memo in
    k E V (read c.args.item.now) h m
