use Rattle.trees.proofs.Cutoffs.{lift-shift, subst-substitute, subst_list-substitute}
use Rattle.term_laws.proofs.parallel_forms.Goals as goal

pub returns : goal.returns
returns c = record {
  of_lift = λ m k t. lift-shift m k t;
  of_subst = λ k a t. subst-substitute a k t;
  of_subst_list = λ k xs t. subst_list-substitute xs k t;
}
