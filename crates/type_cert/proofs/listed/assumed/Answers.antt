use Rattle.std.proofs.Common.{◌∙◌, ap, add-one, None, ◌∷◌}
use Rattle.calculus_rules.specs.Context.{values}
use Rattle.type_cert.proofs.listed.assumed.Goals as goal

pub loop-preserved : goal.loop-preserved
loop-preserved c = rw add-one (ap values c.in_ok-longer.ensures.longer ∙ ap (λ V. None ∷ V) c.loop.invariant)
