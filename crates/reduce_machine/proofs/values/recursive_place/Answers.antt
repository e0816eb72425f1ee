use Rattle.std.proofs.Common.{sym}
use Rattle.redexes.proofs.Reading.{rarg_some, rarg_none}
use Rattle.reduce_machine.proofs.values.recursive_place.Goals as goal

pub returns-in-Some : goal.returns-in-Some
returns-in-Some c =
    let e = rw c.in-Fix.is at c.view.ensures.is in
    record { lacks = rw (← e) (sym (rarg_some c.in-Fix.defs c.in-Fix.i c.in-Some.def.now c.in-Some.ensures.at)) }

pub returns-in-None : goal.returns-in-None
returns-in-None c =
    let e = rw c.in-Fix.is at c.view.ensures.is in
    record { lacks = rw (← e) (sym (rarg_none c.in-Fix.defs c.in-Fix.i c.in-None.ensures.at)) }
