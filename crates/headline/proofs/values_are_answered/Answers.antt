use Rattle.headline.proofs.Composed.{headline}
use Rattle.headline.proofs.values_are_answered.Goals as goal

pub returns : goal.returns
returns c = record { headline = headline }
