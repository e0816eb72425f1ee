use Rattle.calculus_rules.specs.Conversion.{same, back, chain}
use Rattle.calculus_rules.proofs.Congruence.{step_equal}
use Rattle.calculus_rules.proofs.laws.equality_is_an_equivalence.Goals as goal

pub returns : goal.returns
returns c = record {
  reflexive = λ E V t. same;
  symmetric = λ E V t u p. back p;
  transitive = λ E V t u w p q. chain p q;
  steps = λ E V t u p. step_equal p;
}
