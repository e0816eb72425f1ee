use Rattle.known_calls.proofs.CallSizes.{calls_sized}
use Rattle.known_calls.proofs.KnownLight.{lifted_is_light}
use Rattle.known_calls.proofs.KnownShare.{known_is_small}
use Rattle.known_calls.proofs.KnownSizes.{known_sized, locals_bound}
use Rattle.known_calls.proofs.laws.known_bytes_are_bounded.Goals as goal

pub returns-clause-bytes : goal.returns-clause-bytes
returns-clause-bytes c = known_sized

pub returns-clause-locals : goal.returns-clause-locals
returns-clause-locals c = locals_bound

pub returns-clause-lifted : goal.returns-clause-lifted
returns-clause-lifted c = lifted_is_light

pub returns-clause-small : goal.returns-clause-small
returns-clause-small c = known_is_small

pub returns-clause-calls : goal.returns-clause-calls
returns-clause-calls c = calls_sized
