use Rattle.job_laws.proofs.OneAnswer.{status_is_one, texts_are_one}
use Rattle.job_laws.proofs.calls_answer_alike.Goals as goal

pub returns : goal.returns
returns g c = record { one = status_is_one; text = texts_are_one }
