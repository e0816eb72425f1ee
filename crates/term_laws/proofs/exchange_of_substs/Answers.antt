use Rattle.trees.proofs.Operations.{subst-subst, list-into_subst, subst-into_list, list-into_list}
use Rattle.term_laws.proofs.exchange_of_substs.Goals as goal

pub returns : goal.returns
returns c = record {
  terms = λ n k a b t. subst-subst n k a b t;
  list_in_term = λ n k ys a t. list-into_subst n k ys a t;
  term_in_list = λ n k xs b t. subst-into_list n k xs b t;
  lists = λ n k xs ys t. list-into_list n k xs ys t;
}
