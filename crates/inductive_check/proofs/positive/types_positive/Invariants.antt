use Rattle.std.proofs.Common.{Bool, Result, drop}
use Rattle.pc_rules.specs.declared.meter.Meter.{Meter}
use Rattle.pc_rules.specs.declared.stop.Halt.{Halt}
use Rattle.pc_rules.specs.DirectedPositivity.{types_positive}
use Rattle.pc_rules.specs.Follows.{Follows}
use Rattle.inductive_check.proofs.positive.types_positive.Given as goal

-- what answers for the items that are left answers for all
abbrev pub invariant-loop-ty : goal.invariant-loop-ty
invariant-loop-ty l = (r : Result Bool Halt) (n : Meter)
    → Follows (types_positive l.env l.block (drop l.ty-index l.types) l.m.account) r l.m n
    → Follows (types_positive l.env l.block l.types l.initial.m.account) r l.initial.m n
