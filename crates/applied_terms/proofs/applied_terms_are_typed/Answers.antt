use Rattle.applied_terms.proofs.TypedTerms.{applied_terms_are_typed}
use Rattle.applied_terms.proofs.applied_terms_are_typed.Goals as goal

pub returns : goal.returns
returns c = record { typed = applied_terms_are_typed }
