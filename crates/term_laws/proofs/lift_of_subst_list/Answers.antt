use Rattle.trees.proofs.Operations.{lift-past_list, lift-into_list}
use Rattle.term_laws.proofs.lift_of_subst_list.Goals as goal

pub returns : goal.returns
returns c = record {
  past = λ m n k xs t h. lift-past_list m n k xs t h;
  into = λ m n k xs t. lift-into_list m n k xs t;
}
