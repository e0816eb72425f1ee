use Rattle.std.proofs.Common.{◌≡◌, length}
use Rattle.reduce_machine.proofs.Bodies.{body_bound_ok}
use Rattle.reduce_machine.proofs.steps.unfolded.Goals as goal

pub returns-in-Some-clause-ok : goal.returns-in-Some-clause-ok
returns-in-Some-clause-ok c =
    let e = rw c.in-Fix.is at c.view.ensures.is in
    let n : length c.in-Fix.defs ≡ 1 = cc in
    body_bound_ok c.in-Fix.defs c.in-Fix.i c.in-Some.def.now c.args.fix.now c.bound.result e n c.in-Some.ensures.at c.bound.ensures.term c.bound.ensures.items
