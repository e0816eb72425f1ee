use Rattle.cert_rules.proofs.SoundEnvironments.{environment_sound}
use Rattle.cert_rules.proofs.soundness.walked_environments_are_well_formed.Goals as goal

pub returns : goal.returns
returns c = record { environments = environment_sound }
