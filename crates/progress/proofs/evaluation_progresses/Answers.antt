use Rattle.progress.proofs.Progress.{evaluation_progresses}
use Rattle.progress.proofs.evaluation_progresses.Goals as goal

pub returns : goal.returns
returns c = record { progress = evaluation_progresses }
