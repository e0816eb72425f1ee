use Rattle.std.proofs.Common.{rules, subst}
use Rattle.trees.specs.Tree.{Rel}
use Rattle.trees.specs.Parallel.{put_all, substitute}
use Rattle.trees.specs.Measures.{IsBeyond}
use Rattle.trees.specs.Substitution.{subst_list}
use Rattle.trees.proofs.Cutoffs.{subst_list-substitute}
use Rattle.shrink_passes.proofs.Unwrapped.{not_beyond}
use Rattle.shrink_passes.proofs.unwrapping.renumbered.Goals as goal

pub returns-in-Err-TooDeep-clause-only_memory : goal.returns-in-Err-TooDeep-clause-only_memory
returns-in-Err-TooDeep-clause-only_memory c =
    let no : IsBeyond (subst_list 0 c.args.list.now c.args.t.now) → ⊥ = λ b.
    not_beyond (substitute (put_all c.args.list.now Rel) c.args.t.now) c.requires.within (subst IsBeyond (subst_list-substitute c.args.list.now 0 c.args.t.now) b) in
    search (rules, no)
