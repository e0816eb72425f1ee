use Rattle.trees.proofs.Shape.{each_renamed, before_renaming, each_substituted, overs_each, put_all_each, each_lifted, before_lifting, each_put, each_put_list}
use Rattle.pc_terms.specs.Formed.{HasForm}
use Rattle.pc_terms.proofs.Forms.{index_of-formed}
use Rattle.term_laws.proofs.Arguments.{apply-formed, head-formed, args-formed}
use Rattle.term_laws.proofs.results_stay_formed.Goals as goal

pub returns : goal.returns
returns c = record {
  of_rename = λ r t h. each_renamed HasForm t r h;
  before_rename = λ r t h. before_renaming HasForm t r h;
  of_substitute = λ s t f h. each_substituted HasForm t s f h;
  of_put_all = λ xs s h f i. put_all_each HasForm xs s h f i;
  under_binders = λ k s f i. overs_each HasForm k s f i;
  of_lift = λ m k t h. each_lifted HasForm m k t h;
  before_lift = λ m k t h. before_lifting HasForm m k t h;
  of_subst = λ k a t h g. each_put HasForm k a t h g;
  of_subst_list = λ k xs t h g. each_put_list HasForm k xs t h g;
  of_apply = λ f xs h k. apply-formed f xs h k;
  of_head = λ t h. head-formed t h;
  of_args = λ t h. args-formed t h;
  index = λ t h. index_of-formed t h;
}
