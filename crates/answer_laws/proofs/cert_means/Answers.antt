use Rattle.answer_laws.proofs.Meaning.{cert_means}
use Rattle.answer_laws.proofs.cert_means.Goals as goal

pub returns : goal.returns
returns g c = record { means = cert_means }
