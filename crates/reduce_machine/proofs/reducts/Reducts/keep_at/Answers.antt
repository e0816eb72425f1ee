use Rattle.reduce_machine.proofs.Closing.{place_of}
use Rattle.reduce_machine.proofs.reducts.Reducts.keep_at.Goals as goal

pub returns-in-Some-clause-kept : goal.returns-in-Some-clause-kept
returns-in-Some-clause-kept c = λ E V h a.
    let e = rw c.in-Rel.is at c.view.ensures.is in
    let m = rw c.in-Some.is at c.in-Item.ensures.found.2 in
    c.put.ensures.kept E V h (place_of E V c.args.units c.in-Some.memo c.args.own.now c.in-Item.field-0.now c.args.term.now c.in-Rel.i e c.in-Item.ensures.found.0 m a)
