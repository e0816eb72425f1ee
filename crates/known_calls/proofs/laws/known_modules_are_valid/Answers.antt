use Rattle.known_calls.proofs.KnownValidity.{known_valid}
use Rattle.known_calls.proofs.laws.known_modules_are_valid.Goals as goal

pub returns : goal.returns
returns c = record { valid = known_valid }
