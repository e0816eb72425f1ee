use Rattle.trees.proofs.Operations.{subst-lifted, subst-lifted_one, subst-variable, list-lifted}
use Rattle.term_laws.proofs.subst_of_lifted.Goals as goal

pub returns : goal.returns
returns c = record {
  freed = λ k m n a t h g. subst-lifted k m n a t h g;
  unchanged = λ k a t. subst-lifted_one k a t;
  same_variable = λ k t. subst-variable k t;
  list = λ k xs t. list-lifted k xs t;
}
