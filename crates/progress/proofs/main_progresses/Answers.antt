use Rattle.progress.proofs.Consequences.{main_progresses}
use Rattle.progress.proofs.main_progresses.Goals as goal

pub returns : goal.returns
returns c = record { main = main_progresses }
