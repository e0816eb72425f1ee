use Rattle.headline.proofs.PastMaximum.{past_maximum}
use Rattle.headline.proofs.machines_refuse_past_maximum.Goals as goal

pub returns : goal.returns
returns c = record { past = past_maximum }
