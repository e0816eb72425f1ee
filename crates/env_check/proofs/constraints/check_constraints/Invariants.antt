use Rattle.std.proofs.Common.{◌≡◌, drop}
use Rattle.pc_rules.specs.DirectedDeclarations.{first_undeclared_end}
use Rattle.env_check.proofs.constraints.check_constraints.Given as goal

abbrev pub invariant-loop-i : goal.invariant-loop-i
invariant-loop-i l = first_undeclared_end l.levels 0 l.constraints ≡ first_undeclared_end l.levels l.i (drop l.i l.constraints)
