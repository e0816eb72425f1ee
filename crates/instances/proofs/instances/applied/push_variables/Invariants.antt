use Rattle.std.proofs.Common.{◌≡◌, ◌-◌, ◌++◌, map}
use Rattle.pc_terms.specs.Syntax.{shift, variables}
use Rattle.instances.proofs.instances.applied.push_variables.Given as goal

abbrev pub invariant-loop-i : goal.invariant-loop-i
invariant-loop-i l = l.out ++ map (shift l.above 0) (variables (l.count - l.i)) ≡ l.fn.out ++ map (shift l.above 0) (variables l.count)
