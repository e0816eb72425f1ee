use Rattle.std.proofs.Common.{Bool, Result, drop, map}
use Rattle.pc_rules.specs.declared.meter.Meter.{Meter}
use Rattle.pc_rules.specs.declared.stop.Halt.{Halt}
use Rattle.pc_rules.specs.DirectedPositivity.{constructors_positive}
use Rattle.pc_rules.specs.Follows.{Follows}
use Rattle.inductive_check.specs.Given.{ctor_of}
use Rattle.inductive_check.proofs.positive.constructors_positive.Given as goal

-- what answers for the items that are left answers for all
abbrev pub invariant-loop-ctor : goal.invariant-loop-ctor
invariant-loop-ctor l = (r : Result Bool Halt) (n : Meter)
    → Follows (constructors_positive l.env l.block (map ctor_of (drop l.ctor-index l.ctors)) l.m.account) r l.m n
    → Follows (constructors_positive l.env l.block (map ctor_of l.ctors) l.initial.m.account) r l.initial.m n
