use Rattle.sparing_laws.proofs.LemmaKeeping.{evaluations_are_over_lemmas}
use Rattle.sparing_laws.proofs.evaluations_are_over_lemmas.Goals as goal

pub returns : goal.returns
returns c = record { over = evaluations_are_over_lemmas }
