use Rattle.trees.proofs.Operations.{lift-stays_closed, subst-stays_closed, list-stays_closed}
use Rattle.term_laws.proofs.results_stay_closed.Goals as goal

pub returns : goal.returns
returns c = record {
  of_lift = λ m n k t c. lift-stays_closed m n k t c;
  of_subst = λ n k a t c d. subst-stays_closed n k a t c d;
  of_subst_list = λ n k xs t c d. list-stays_closed n k xs t c d;
}
