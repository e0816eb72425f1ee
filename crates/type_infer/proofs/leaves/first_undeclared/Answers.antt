use Rattle.std.proofs.Common.{◌≡◌, ◌≤◌, ◌∙◌, sym, length, arith}
use Rattle.type_infer.proofs.Entries.{undeclared_here, undeclared_later, all_declared}
use Rattle.type_infer.proofs.leaves.first_undeclared.Goals as goal

pub loop-i-preserved : goal.loop-i-preserved
loop-i-preserved c =
    c.loop-i.invariant ∙ undeclared_later c.args.levels c.args.parts.now c.loop-i.i _ c.loop-i-test.true c.if-level-levels.false

pub returns-then-level-levels : goal.returns-then-level-levels
returns-then-level-levels c =
    record { is = sym (c.loop-i.invariant ∙ undeclared_here c.args.levels c.args.parts.now c.loop-i.i _ c.loop-i-test.true c.if-level-levels.true) }

pub returns : goal.returns
returns c =
    record { is = sym (c.loop-i.invariant ∙ all_declared c.args.levels c.args.parts.now c.loop-i.i c.loop-i-test.false) }
