use Rattle.std.proofs.Common.{◌≡◌}
use Rattle.calculus_rules.specs.Context.{values, under}
use Rattle.lazy_conversion.proofs.assumptions.assume_all.Given as goal

abbrev pub invariant-loop-i : goal.invariant-loop-i
invariant-loop-i l = values l.out ≡ under l.i (values l.ctx)
