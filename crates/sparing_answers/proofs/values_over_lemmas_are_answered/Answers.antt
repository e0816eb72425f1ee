use Rattle.sparing_answers.proofs.OverLemmas.{values_over_lemmas_are_answered}
use Rattle.sparing_answers.proofs.values_over_lemmas_are_answered.Goals as goal

pub returns : goal.returns
returns c = record { answered = values_over_lemmas_are_answered }
