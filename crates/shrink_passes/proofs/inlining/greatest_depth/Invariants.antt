use Rattle.std.proofs.Common.{◌≡◌, ◌≤◌, max, drop}
use Rattle.trees.specs.Measures.{depth, depth_limit}
use Rattle.shrink_passes.specs.Uses.{greatest}
use Rattle.shrink_passes.proofs.inlining.greatest_depth.Given as goal

abbrev pub invariant-loop-d : goal.invariant-loop-d
invariant-loop-d l = record {
  greatest_is : max l.most (greatest depth (drop l.d-index l.d-items)) ≡ max (depth l.p.main) (greatest depth l.d-items);
  within : l.most ≤ depth_limit;
}
