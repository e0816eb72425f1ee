use Rattle.std.proofs.Common.{◌≡◌}
use Rattle.calculus_rules.specs.Context.{values, under}
use Rattle.type_cert.proofs.listed.assumed.Given as goal

abbrev pub invariant-loop : goal.invariant-loop
invariant-loop l = values l.out ≡ under l.counter (values l.ctx)
