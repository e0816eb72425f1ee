use Rattle.std.proofs.Common.{Bool, Result, map}
use Rattle.pc_rules.specs.declared.meter.Meter.{Meter}
use Rattle.pc_rules.specs.declared.stop.Halt.{Halt}
use Rattle.pc_rules.specs.Follows.{Follows}
use Rattle.inductive_check.specs.Waiting.{waiting, each_test}
use Rattle.inductive_check.proofs.positivity.all_good.Given as goal

-- what answers for the tests that are left answers for all
abbrev pub invariant-loop : goal.invariant-loop
invariant-loop l = (r : Result Bool Halt) (n : Meter)
    → Follows (each_test l.env (map waiting l.tests.items) l.m.account) r l.m n
    → Follows (each_test l.env (map waiting l.fn.tests.items) l.fn.m.account) r l.fn.m n
