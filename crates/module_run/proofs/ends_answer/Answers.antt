use Rattle.module_run.proofs.OneEnd.{ends_answer}
use Rattle.module_run.proofs.ends_answer.Goals as goal

pub returns : goal.returns
returns c = record { answers = ends_answer }
