use Rattle.std.proofs.Common.{◌≡◌, map, take}
use Rattle.trees.specs.Tree.{Rel as variable}
use Rattle.pc_terms.specs.Syntax.{overs, put_all, substitute}
use Rattle.instances.proofs.instances.branches.result_indices.Given as goal

abbrev pub invariant-loop-index : goal.invariant-loop-index
invariant-loop-index l = l.out ≡ map (substitute (overs l.count (put_all l.params variable))) (take l.index-index l.index-items)
