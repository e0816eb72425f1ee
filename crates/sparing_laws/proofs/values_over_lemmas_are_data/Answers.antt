use Rattle.sparing_laws.proofs.LemmaValues.{values_over_lemmas_are_data}
use Rattle.sparing_laws.proofs.values_over_lemmas_are_data.Goals as goal

pub returns : goal.returns
returns c = record { reads = values_over_lemmas_are_data }
