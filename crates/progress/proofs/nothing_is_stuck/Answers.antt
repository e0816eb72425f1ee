use Rattle.progress.proofs.Consequences.{nothing_is_stuck}
use Rattle.progress.proofs.nothing_is_stuck.Goals as goal

pub returns : goal.returns
returns c = record { never = nothing_is_stuck }
