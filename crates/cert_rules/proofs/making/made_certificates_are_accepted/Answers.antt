use Rattle.cert_rules.proofs.TraceEnvironments.{environment_forgets, environment_accepted}
use Rattle.cert_rules.proofs.making.made_certificates_are_accepted.Goals as goal

pub returns : goal.returns
returns c = record { directed = environment_forgets; accepted = environment_accepted }
