use Rattle.std.proofs.Common.{◌≡◌, ◌≤◌, ◌-◌}
use Rattle.trees.specs.Measures.{depth}
use Rattle.dump_printer.specs.Cut.{cut_depth, deepest_from}
use Rattle.dump_printer.proofs.cutting.cut_depth.Given as goal

abbrev pub invariant-loop-depth : goal.invariant-loop-depth
invariant-loop-depth l = record {
  within : l.depth ≤ depth l.t;
  same : deepest_from (depth l.t - l.depth) l.depth l.t ≡ cut_depth l.t;
}

abbrev pub decreases-loop-depth : goal.decreases-loop-depth
decreases-loop-depth l = depth l.t - l.depth
