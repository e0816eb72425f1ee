use Rattle.std.proofs.Common.{ap}
use Rattle.calculus_rules.specs.Context.{values}
use Rattle.lazy_conversion.proofs.assumptions.assume.Goals as goal

pub returns-clause-longer : goal.returns-clause-longer
returns-clause-longer c = ap values c.in_ok-out.ensures.longer
