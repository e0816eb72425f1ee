use Rattle.calculus_rules.proofs.Bare.{bare_types}
use Rattle.calculus_rules.proofs.laws.types_are_bare_types.Goals as goal

pub returns : goal.returns
returns c = record { bare = λ E c t T p. bare_types p }
