use Rattle.equality_laws.proofs.Roots.{settled}
use Rattle.equality_laws.proofs.Formers.{product_is_no_sort, sort_is_no_product, product_is_no_family, family_is_no_product, sort_is_no_family, family_is_no_sort}
use Rattle.equality_laws.proofs.formers_are_apart.Goals as goal

pub returns : goal.returns
returns c = record {
  product_not_sort = λ E a. product_is_no_sort (settled E a);
  sort_not_product = λ E a. sort_is_no_product (settled E a);
  product_not_family = λ E a. product_is_no_family (settled E a);
  family_not_product = λ E a. family_is_no_product (settled E a);
  sort_not_family = λ E a. sort_is_no_family (settled E a);
  family_not_sort = λ E a. family_is_no_sort (settled E a);
}
