use Rattle.trees.proofs.Operations.{list-none, list-one, list-first, list-last}
use Rattle.term_laws.proofs.subst_list_is_repeated.Goals as goal

pub returns : goal.returns
returns c = record {
  none = λ k t. list-none k t;
  one = λ k a t. list-one k a t;
  first = λ k a xs t. list-first k a xs t;
  last = λ k xs a t. list-last k xs a t;
}
