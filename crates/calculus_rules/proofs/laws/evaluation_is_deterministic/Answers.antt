use Rattle.calculus_rules.proofs.Determined.{determined}
use Rattle.calculus_rules.proofs.laws.evaluation_is_deterministic.Goals as goal

pub returns : goal.returns
returns c = record { determined = λ E o t v w n m e e'. determined o e e' }
