use Rattle.sparing_laws.proofs.Keeping.{sparing_keeps_types, sparing_is_equality}
use Rattle.sparing_laws.proofs.sparing_keeps_types.Goals as goal

pub returns : goal.returns
returns c = record { typed = sparing_keeps_types; equals = sparing_is_equality }
