use Rattle.typing_laws.proofs.MiddleEntries.{declarations_keep_types, declarations_keep_equality, declarations_keep_below}
use Rattle.typing_laws.proofs.weakening_by_declarations.Goals as goal

pub returns : goal.returns
returns c = record { equality = declarations_keep_equality; below = declarations_keep_below; types = declarations_keep_types }
