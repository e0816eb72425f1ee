use Rattle.std.proofs.Common.{◌≡◌, ◌-◌, ◌++◌}
use Rattle.pc_terms.specs.Syntax.{variables}
use Rattle.first_order.proofs.arguments.variables.Given as goal

abbrev pub invariant-loop-i : goal.invariant-loop-i
invariant-loop-i l = l.out ++ variables (l.count - l.i) ≡ variables l.count
