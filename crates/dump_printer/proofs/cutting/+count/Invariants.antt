use Rattle.std.proofs.Common.{◌≡◌, ◌≤◌, ◌+◌, ◌*◌, drop, length}
use Rattle.std.specs.Prelude.{min}
use Rattle.trees.specs.Tree.{terms_of}
use Rattle.trees.specs.Measures.{depth, depth_trees}
use Rattle.pc_terms.specs.View.{tree_of}
use Rattle.pc_terms.specs.Lists.{arms_of, types_of, bodies_of, depth_defs}
use Rattle.dump_printer.specs.Cut.{nodes_within, sum_of_terms}
use Rattle.dump_printer.proofs.cutting.+count.Given as goal

abbrev pub decreases-count : goal.decreases-count
decreases-count l = 4 * depth l.t.now + 1

abbrev pub decreases-count_node : goal.decreases-count_node
decreases-count_node l = 4 * depth (tree_of l.node.now)

abbrev pub decreases-count_terms : goal.decreases-count_terms
decreases-count_terms l = 4 * depth_trees (terms_of l.ts.now) + 2

abbrev pub decreases-count_branches : goal.decreases-count_branches
decreases-count_branches l = 4 * depth_trees (arms_of l.bs.now) + 2

abbrev pub decreases-count_definitions : goal.decreases-count_definitions
decreases-count_definitions l = 4 * depth_defs l.ds.now + 2

abbrev pub invariant-count_terms-loop-t : goal.invariant-count_terms-loop-t
invariant-count_terms-loop-t l = record {
  few : l.nodes ≤ 201;
  same : min 201 (l.nodes + sum_of_terms (nodes_within l.room) (terms_of (drop l.t-index l.ts))) ≡ min 201 (l.fn.nodes + sum_of_terms (nodes_within l.room) (terms_of l.ts));
}

abbrev pub invariant-count_branches-loop-b : goal.invariant-count_branches-loop-b
invariant-count_branches-loop-b l = record {
  few : l.nodes ≤ 201;
  same : min 201 (l.nodes + sum_of_terms (nodes_within l.room) (arms_of (drop l.b-index l.bs))) ≡ min 201 (l.fn.nodes + sum_of_terms (nodes_within l.room) (arms_of l.bs));
}

abbrev pub invariant-count_definitions-loop-d : goal.invariant-count_definitions-loop-d
invariant-count_definitions-loop-d l = record {
  few : l.nodes ≤ 201;
  same : min 201 (l.nodes + (sum_of_terms (nodes_within l.room) (types_of (drop l.d-index l.ds)) + sum_of_terms (nodes_within l.room) (bodies_of (length l.ds) (drop l.d-index l.ds))))
      ≡ min 201 (l.fn.nodes + (sum_of_terms (nodes_within l.room) (types_of l.ds) + sum_of_terms (nodes_within l.room) (bodies_of (length l.ds) l.ds)));
}
