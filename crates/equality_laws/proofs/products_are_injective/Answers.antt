use Rattle.equality_laws.proofs.Roots.{settled}
use Rattle.equality_laws.proofs.Formers.{equal_products, below_products}
use Rattle.equality_laws.proofs.products_are_injective.Goals as goal

pub returns : goal.returns
returns c = record {
  equal = λ E a. equal_products (settled E a);
  below = λ E a. below_products (settled E a);
}
