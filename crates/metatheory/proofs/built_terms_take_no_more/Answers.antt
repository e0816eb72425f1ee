use Rattle.metatheory.proofs.Untypable.{built_terms_take_no_more}
use Rattle.metatheory.proofs.built_terms_take_no_more.Goals as goal

pub returns : goal.returns
returns c = record { refused = built_terms_take_no_more }
