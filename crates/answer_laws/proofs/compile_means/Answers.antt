use Rattle.answer_laws.proofs.Meaning.{compile_means}
use Rattle.answer_laws.proofs.compile_means.Goals as goal

pub returns : goal.returns
returns g c = record { means = compile_means }
