use Rattle.known_calls.proofs.KnownSpelling.{known_spelled}
use Rattle.known_calls.proofs.laws.known_modules_can_be_spelled.Goals as goal

pub returns : goal.returns
returns c = record { spelled = known_spelled }
