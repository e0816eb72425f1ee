use Rattle.std.proofs.Common.{drop}
use Rattle.data_trees.specs.Preorder.{IsForest, IsTree}
use Rattle.mem_value.specs.Storing.{IsSmallData}
use Rattle.module_rows.proofs.arguments.is_small_tree.Given as goal

abbrev pub invariant-loop-i : goal.invariant-loop-i
invariant-loop-i l = record {
  tree : IsForest l.wanted (drop l.i l.nodes) → IsTree l.nodes;
  small : IsSmallData (drop l.i l.nodes) → IsSmallData l.nodes;
}
