use Rattle.answer_laws.proofs.Meaning.{check_means}
use Rattle.answer_laws.proofs.check_means.Goals as goal

pub returns : goal.returns
returns g c = record { means = check_means }
