use Rattle.sparing_answers.proofs.OverLemmas.{lemmas_are_followed}
use Rattle.sparing_answers.proofs.lemmas_are_followed.Goals as goal

pub returns : goal.returns
returns c = record { followed = lemmas_are_followed }
