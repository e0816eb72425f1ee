use Rattle.calculus_rules.proofs.Congruence.{equal_products, equal_lambdas, equal_lets, equal_applications, equal_matches, equal_fixpoints}
use Rattle.calculus_rules.proofs.laws.equality_is_a_congruence.Goals as goal

pub returns : goal.returns
returns c = record {
  products = equal_products;
  lambdas = equal_lambdas;
  lets = equal_lets;
  applications = equal_applications;
  matches = equal_matches;
  fixpoints = equal_fixpoints;
}
