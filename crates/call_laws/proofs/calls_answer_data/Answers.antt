use Rattle.call_laws.proofs.Serving.{calls_answer_data}
use Rattle.call_laws.proofs.calls_answer_data.Goals as goal

pub returns : goal.returns
returns g c = record { serves = calls_answer_data }
