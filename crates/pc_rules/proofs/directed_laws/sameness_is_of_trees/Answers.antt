use Rattle.std.proofs.Common.{true, subst, ◌≡◌}
use Rattle.calculus_rules.specs.Same.{same}
use Rattle.pc_rules.proofs.SameTrees.{same_is, same_itself}
use Rattle.pc_rules.proofs.directed_laws.sameness_is_of_trees.Goals as goal

pub returns : goal.returns
returns c = record { same = λ t u. (same_is t u, λ e. subst (λ x. same t x ≡ true) e (same_itself t)) }
