use Rattle.trees.proofs.Operations.{lift-past_subst, lift-into_subst}
use Rattle.term_laws.proofs.lift_of_subst.Goals as goal

pub returns : goal.returns
returns c = record {
  past = λ m n k a t h. lift-past_subst m n k a t h;
  into = λ m n k a t. lift-into_subst m n k a t;
}
