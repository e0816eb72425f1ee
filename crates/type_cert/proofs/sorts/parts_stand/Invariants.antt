use Rattle.std.proofs.Common.{◌≡◌, drop}
use Rattle.pc_rules.specs.DirectedTyping.{first_undeclared}
use Rattle.type_cert.proofs.sorts.parts_stand.Given as goal

-- the rest decides
abbrev pub invariant-loop-i : goal.invariant-loop-i
invariant-loop-i l = first_undeclared l.levels l.parts ≡ first_undeclared l.levels (drop l.i l.parts)
