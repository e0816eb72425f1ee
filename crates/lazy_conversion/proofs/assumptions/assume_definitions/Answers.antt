use Rattle.std.proofs.Common.{◌∙◌, ap}
use Rattle.calculus_rules.specs.Context.{values, under}
use Rattle.lazy_conversion.proofs.assumptions.assume_definitions.Goals as goal

pub returns-clause-longer : goal.returns-clause-longer
returns-clause-longer c = c.in_ok-inner.ensures.longer ∙ ap (λ n. under n (values c.args.ctx.now)) c.len.ensures.is
