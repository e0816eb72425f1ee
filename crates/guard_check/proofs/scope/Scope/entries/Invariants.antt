use Rattle.std.proofs.Common.{◌≡◌}
use Rattle.calculus_rules.specs.Context.{values, under}
use Rattle.guard_check.proofs.scope.Scope.entries.Given as goal

abbrev pub invariant-loop : goal.invariant-loop
invariant-loop l = values l.ctx ≡ under l.counter (values l.self.ctx)
