use Rattle.trees.proofs.Fusion.{rename-rename, substitute-rename, rename-substitute, substitute-substitute}
use Rattle.trees.proofs.Put.{substitute_same, substitute_closed}
use Rattle.term_laws.proofs.parallel_operations_compose.Goals as goal

pub returns : goal.returns
returns c = record {
  renamings = λ t r s. rename-rename t r s;
  substitution_of_renamed = λ t r s. substitute-rename t r s;
  renaming_of_substituted = λ t s r. rename-substitute t s r;
  substitutions = λ t s q. substitute-substitute t s q;
  nothing = λ t. substitute_same t;
  agreeing = λ t k s q h c. substitute_closed t k s q h c;
}
