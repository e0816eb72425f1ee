use Rattle.call_laws.proofs.Serving.{spelled_arguments_apply}
use Rattle.call_laws.proofs.spelled_arguments_apply.Goals as goal

pub returns : goal.returns
returns c = record { applied = spelled_arguments_apply }
