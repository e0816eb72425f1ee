use Rattle.export_laws.proofs.Meaning.{export_means}
use Rattle.export_laws.proofs.export_means.Goals as goal

pub returns : goal.returns
returns g c = record { means = export_means }
