use Rattle.typing_laws.proofs.MiddleEntries.{substitution, substitution_of_equality, substitution_of_below}
use Rattle.typing_laws.proofs.closed_substitution.Goals as goal

pub returns : goal.returns
returns c = record { equality = substitution_of_equality; below = substitution_of_below; types = substitution }
