use Rattle.typing_laws.proofs.MiddleEntries.{weakening, weakening_of_equality, weakening_of_below}
use Rattle.typing_laws.proofs.weakening_by_entries.Goals as goal

pub returns : goal.returns
returns c = record { equality = weakening_of_equality; below = weakening_of_below; types = weakening }
