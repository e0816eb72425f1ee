use Rattle.call_answers.proofs.Composed.{call_headline}
use Rattle.call_answers.proofs.calls_are_answered.Goals as goal

pub returns : goal.returns
returns c = record { headline = call_headline }
