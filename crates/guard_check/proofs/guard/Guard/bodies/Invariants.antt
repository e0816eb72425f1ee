use Rattle.std.proofs.Common.{Result, drop, length}
use Rattle.pc_terms.specs.Lists.{rargs_of, bodies_of}
use Rattle.pc_rules.specs.declared.meter.Meter.{Meter}
use Rattle.pc_rules.specs.declared.stop.Halt.{Halt}
use Rattle.pc_rules.specs.Follows.{Follows}
use Rattle.pc_rules.specs.DirectedRun.{run_all}
use Rattle.pc_rules.specs.DirectedGuard.{bodies_guard}
use Rattle.guard_check.specs.Marks.{values_in, marks_in}
use Rattle.guard_check.proofs.guard.Guard.bodies.Given as goal

-- what answers for the bodies that are left answers for all
abbrev pub invariant-loop-def : goal.invariant-loop-def
invariant-loop-def g l = (r : Result (Unit {0}) Halt) (n : Meter)
    → Follows (run_all (bodies_guard l.env (values_in l.scope) (marks_in l.scope) (rargs_of (drop l.def-index l.defs)) (bodies_of (length l.defs) (drop l.def-index l.defs))) l.m.account) r l.m n
    → Follows (run_all (bodies_guard l.env (values_in l.scope) (marks_in l.scope) (rargs_of l.defs) (bodies_of (length l.defs) l.defs)) l.fn.m.account) r l.fn.m n
