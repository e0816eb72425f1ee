use Rattle.std.proofs.Common.{◌≡◌}
use Rattle.calculus_rules.specs.Guardedness.{others}
use Rattle.guard_check.specs.Marks.{marks_of}
use Rattle.guard_check.proofs.scope.Scope.under.Given as goal

abbrev pub invariant-loop : goal.invariant-loop
invariant-loop l = marks_of l.marks ≡ others l.counter (marks_of l.self.marks)
