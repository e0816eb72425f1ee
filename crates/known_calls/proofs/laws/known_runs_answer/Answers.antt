use Rattle.known_calls.proofs.KnownAnswering.{known_answers}
use Rattle.known_calls.proofs.laws.known_runs_answer.Goals as goal

pub returns : goal.returns
returns c = record { runs = known_answers }
