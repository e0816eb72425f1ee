use Rattle.call_laws.proofs.Finishing.{calls_finish}
use Rattle.call_laws.proofs.calls_finish.Goals as goal

pub returns : goal.returns
returns g c = record { finishes = calls_finish }
