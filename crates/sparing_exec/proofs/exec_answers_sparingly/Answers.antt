use Rattle.sparing_exec.proofs.Answering.{exec_answers_sparingly}
use Rattle.sparing_exec.proofs.exec_answers_sparingly.Goals as goal

pub returns : goal.returns
returns g c = record { means = exec_answers_sparingly }
