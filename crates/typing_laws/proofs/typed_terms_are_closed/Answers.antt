use Rattle.typing_laws.proofs.MiddleEntries.{typed_is_closed}
use Rattle.typing_laws.proofs.typed_terms_are_closed.Goals as goal

pub returns : goal.returns
returns c = record { closed = typed_is_closed }
