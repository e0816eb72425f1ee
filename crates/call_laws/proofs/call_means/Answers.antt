use Rattle.call_laws.proofs.Meaning.{call_means}
use Rattle.call_laws.proofs.call_means.Goals as goal

pub returns : goal.returns
returns g c = record { means = call_means }
