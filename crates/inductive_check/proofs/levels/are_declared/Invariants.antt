use Rattle.std.proofs.Common.{◌≡◌, drop}
use Rattle.pc_rules.specs.DirectedTyping.{first_undeclared}
use Rattle.inductive_check.proofs.levels.are_declared.Given as goal

abbrev pub invariant-loop-part : goal.invariant-loop-part
invariant-loop-part l = first_undeclared l.levels l.part-items ≡ first_undeclared l.levels (drop l.part-index l.part-items)
