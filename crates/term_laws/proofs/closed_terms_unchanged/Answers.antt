use Rattle.trees.proofs.Operations.{closed-lift, closed-subst, closed-list}
use Rattle.term_laws.proofs.closed_terms_unchanged.Goals as goal

pub returns : goal.returns
returns c = record {
  by_lift = λ m n k t c h. closed-lift m n k t c h;
  by_subst = λ n k a t c h. closed-subst n k a t c h;
  by_subst_list = λ n k xs t c h. closed-list n k xs t c h;
}
