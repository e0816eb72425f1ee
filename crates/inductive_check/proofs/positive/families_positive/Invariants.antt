use Rattle.std.proofs.Common.{Bool, Result, drop, map}
use Rattle.pc_rules.specs.declared.meter.Meter.{Meter}
use Rattle.pc_rules.specs.declared.stop.Halt.{Halt}
use Rattle.pc_rules.specs.DirectedPositivity.{families_positive}
use Rattle.pc_rules.specs.Follows.{Follows}
use Rattle.inductive_check.specs.Given.{family_of}
use Rattle.inductive_check.proofs.positive.families_positive.Given as goal

-- what answers for the items that are left answers for all
abbrev pub invariant-loop-family : goal.invariant-loop-family
invariant-loop-family l = (r : Result Bool Halt) (n : Meter)
    → Follows (families_positive l.env l.block (map family_of (drop l.family-index l.families)) l.m.account) r l.m n
    → Follows (families_positive l.env l.block (map family_of l.families) l.initial.m.account) r l.initial.m n
