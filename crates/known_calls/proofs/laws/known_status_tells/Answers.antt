use Rattle.known_calls.proofs.KnownStatus.{status_tells}
use Rattle.known_calls.proofs.laws.known_status_tells.Goals as goal

pub returns : goal.returns
returns c = record { told = status_tells }
