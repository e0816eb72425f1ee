use Rattle.sparing_laws.proofs.LemmaKeeping.{over_lemmas_keeps_types, over_lemmas_is_equality}
use Rattle.sparing_laws.proofs.over_lemmas_keeps_types.Goals as goal

pub returns : goal.returns
returns c = record { typed = over_lemmas_keeps_types; equals = over_lemmas_is_equality }
