use Rattle.trees.specs.Substitution.{lift_var, subst_var, subst_list_var}
use Rattle.term_laws.proofs.Arguments.{spine-whole, walk-apply}
use Rattle.term_laws.proofs.spines.Goals as goal

pub returns : goal.returns
returns c = record {
  whole = λ t. spine-whole t;
  of_lift = λ m k f xs. walk-apply (lift_var m) k f xs;
  of_subst = λ k a f xs. walk-apply (subst_var a) k f xs;
  of_subst_list = λ k ys f xs. walk-apply (subst_list_var ys) k f xs;
}
