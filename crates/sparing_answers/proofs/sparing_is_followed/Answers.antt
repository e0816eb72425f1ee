use Rattle.sparing_answers.proofs.Answered.{sparing_is_followed}
use Rattle.sparing_answers.proofs.sparing_is_followed.Goals as goal

pub returns : goal.returns
returns c = record { followed = sparing_is_followed }
