use Rattle.progress.proofs.Consequences.{families_are_built}
use Rattle.progress.proofs.families_are_built.Goals as goal

pub returns : goal.returns
returns c = record { built = families_are_built }
