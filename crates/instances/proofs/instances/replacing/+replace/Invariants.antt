use Rattle.std.proofs.Common.{◌≡◌, length, map, take}
use Rattle.trees.specs.Substitution.{walk}
use Rattle.pc_terms.specs.Lists.{walk_branch, walk_def}
use Rattle.instances.specs.Replacing.{replaced_var}
use Rattle.instances.proofs.instances.replacing.+replace.Given as goal

abbrev pub invariant-terms_above-loop-t : goal.invariant-terms_above-loop-t
invariant-terms_above-loop-t l = l.items ≡ map (walk (replaced_var l.list l.raise) l.k) (take l.t-index l.ts)

abbrev pub invariant-branches_above-loop-b : goal.invariant-branches_above-loop-b
invariant-branches_above-loop-b l = l.items ≡ map (walk_branch (replaced_var l.list l.raise) l.k) (take l.b-index l.bs)

abbrev pub invariant-defs_above-loop-d : goal.invariant-defs_above-loop-d
invariant-defs_above-loop-d l = l.items ≡ map (walk_def (replaced_var l.list l.raise) l.k (length l.ds)) (take l.d-index l.ds)
