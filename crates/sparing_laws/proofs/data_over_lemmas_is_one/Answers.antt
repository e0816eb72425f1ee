use Rattle.sparing_laws.proofs.LemmaValues.{data_over_lemmas_is_one, sparing_gives_the_same_as_over_lemmas}
use Rattle.sparing_laws.proofs.data_over_lemmas_is_one.Goals as goal

pub returns : goal.returns
returns c = record { one = data_over_lemmas_is_one; same = sparing_gives_the_same_as_over_lemmas }
