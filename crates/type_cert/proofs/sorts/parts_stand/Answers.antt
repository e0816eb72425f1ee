use Rattle.std.proofs.Common.{◌∙◌}
use Rattle.type_infer.proofs.Entries.{undeclared_later, all_declared}
use Rattle.type_cert.proofs.sorts.parts_stand.Goals as goal

pub loop-i-preserved : goal.loop-i-preserved
loop-i-preserved c =
    c.loop-i.invariant ∙ undeclared_later c.args.levels c.args.parts.now c.loop-i.i _ c.loop-i-test.true c.if-level-levels.false

pub returns : goal.returns
returns c =
    record { declared = λ h. c.loop-i.invariant ∙ all_declared c.args.levels c.args.parts.now c.loop-i.i c.loop-i-test.false }
