use Rattle.known_calls.proofs.KnownCalling.{calls_answer}
use Rattle.known_calls.proofs.KnownStatus.{calls_tell}
use Rattle.known_calls.proofs.KnownValidity.{calls_valid}
use Rattle.known_calls.proofs.laws.known_calls_of_main_answer.Goals as goal

pub returns-clause-runs : goal.returns-clause-runs
returns-clause-runs c = calls_answer

pub returns-clause-valid : goal.returns-clause-valid
returns-clause-valid c = calls_valid

pub returns-clause-status : goal.returns-clause-status
returns-clause-status c = calls_tell
