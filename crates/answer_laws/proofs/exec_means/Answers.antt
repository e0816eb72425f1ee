use Rattle.answer_laws.proofs.Meaning.{exec_means}
use Rattle.answer_laws.proofs.exec_means.Goals as goal

pub returns : goal.returns
returns g c = record { means = exec_means }
