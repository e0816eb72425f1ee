use Rattle.std.proofs.Common.{◌≡◌, take}
use Rattle.trees.specs.Tree.{Rel as variable}
use Rattle.trees.specs.Parallel.{put_all}
use Rattle.calculus_rules.specs.Instances.{entries_at}
use Rattle.instances.proofs.instances.entries.telescope_at.Given as goal

abbrev pub invariant-loop-i : goal.invariant-loop-i
invariant-loop-i l = l.out ≡ entries_at (put_all l.params variable) (take l.i l.entries)
