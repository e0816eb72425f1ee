use Rattle.sparing_exec.proofs.Answering.{compile_answers_sparingly}
use Rattle.sparing_exec.proofs.compile_answers_sparingly.Goals as goal

pub returns : goal.returns
returns g c = record { means = compile_answers_sparingly }
