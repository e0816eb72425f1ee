use Rattle.sparing_answers.proofs.Answered.{sparing_values_are_answered}
use Rattle.sparing_answers.proofs.sparing_values_are_answered.Goals as goal

pub returns : goal.returns
returns c = record { answered = sparing_values_are_answered }
