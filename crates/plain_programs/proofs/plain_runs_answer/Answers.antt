use Rattle.plain_programs.proofs.Runs.{runs_answer}
use Rattle.plain_programs.proofs.plain_runs_answer.Goals as goal

pub returns : goal.returns
returns c = record { answers = runs_answer }
