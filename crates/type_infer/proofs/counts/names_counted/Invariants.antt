use Rattle.std.proofs.Common.{Result, drop}
use Rattle.trees.specs.Shape.{binders_of}
use Rattle.pc_terms.specs.Lists.{arms_of}
use Rattle.pc_rules.specs.declared.meter.Account.{Account}
use Rattle.pc_rules.specs.declared.stop.Halt.{Halt}
use Rattle.pc_rules.specs.DirectedTyping.{names_counted}
use Rattle.pc_rules.specs.Follows.{Answers}
use Rattle.type_infer.proofs.counts.names_counted.Given as goal

-- what answers for the rest of two lists answers for the whole
abbrev pub invariant-loop-i : goal.invariant-loop-i
invariant-loop-i l =
    (u : Account) (r : Result (Unit {0}) Halt) → Answers (names_counted (drop l.i l.listed) (binders_of (arms_of (drop l.i l.bodies))) u) r u
    → Answers (names_counted l.listed (binders_of (arms_of l.bodies)) u) r u
