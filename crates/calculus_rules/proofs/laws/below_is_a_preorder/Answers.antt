use Rattle.calculus_rules.specs.Conversion.{same, Below, equal, sort}
use Rattle.calculus_rules.proofs.laws.below_is_a_preorder.Goals as goal

pub returns : goal.returns
returns c = record {
  reflexive = λ E V t. equal same;
  transitive = λ E V t u w p q. Below.chain p q;
  equality = λ E V t u p. equal p;
  prop = λ E V s. sort tt;
}
