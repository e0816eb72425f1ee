use Rattle.std.proofs.Common.{Result, map}
use Rattle.pc_rules.specs.declared.meter.Meter.{Meter}
use Rattle.pc_rules.specs.declared.stop.Halt.{Halt}
use Rattle.calculus_rules.specs.Guardedness.{Mark}
use Rattle.pc_rules.specs.Follows.{Follows}
use Rattle.guard_check.specs.Tasks.{to_find, each_smaller}
use Rattle.guard_check.proofs.guard.Guard.all_smaller.Given as goal

-- what answers for the terms that are left answers for all
abbrev pub invariant-loop : goal.invariant-loop
invariant-loop g l = (r : Result Mark Halt) (n : Meter)
    → Follows (each_smaller l.env l.recursive (map to_find l.tasks.items) l.m.account) r l.m n
    → Follows (each_smaller l.env l.recursive (map to_find l.fn.tasks.items) l.fn.m.account) r l.fn.m n
