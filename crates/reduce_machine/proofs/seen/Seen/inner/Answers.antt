use Rattle.reduce_machine.proofs.Inner.{seen_inner, seen_alone}
use Rattle.reduce_machine.proofs.seen.Seen.inner.Goals as goal

pub returns-in-Some-clause-some : goal.returns-in-Some-clause-some
returns-in-Some-clause-some c =
    let k = rw c.in-Some.is at c.split_last.ensures.cases in
    seen_inner c.args.self.now _ k.0 k.1 c.requires

pub returns-in-None-clause-none : goal.returns-in-None-clause-none
returns-in-None-clause-none c =
    let k = rw c.in-None.is at c.split_last.ensures.cases in
    seen_alone c.args.self.now k c.requires
