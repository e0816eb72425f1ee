use Rattle.std.proofs.Common.{◌≡◌, ◌+◌, ◌*◌, length, take, map}
use Rattle.std.specs.Prelude.{nat_eq}
use Rattle.std.specs.HashMap.{get}
use Rattle.trees.specs.Measures.{depth, depth_trees}
use Rattle.box_terms.specs.BoxLists.{arms_of, bodies_of}
use Rattle.box_passes.specs.Maps.{map_branch, map_def}
use Rattle.shrink_passes.specs.DeadPlaces.{is_place}
use Rattle.shrink_passes.specs.Pruned.{pruned}
use Rattle.shrink_passes.proofs.pruning.+prune.Given as goal

abbrev pub decreases-prune_head : goal.decreases-prune_head
decreases-prune_head l = 2 * depth l.t.now

abbrev pub decreases-prune_branches : goal.decreases-prune_branches
decreases-prune_branches l = 2 * depth_trees (arms_of l.bs.now) + 1

abbrev pub decreases-prune_defs : goal.decreases-prune_defs
decreases-prune_defs l = 2 * depth_trees (bodies_of (length l.ds.now) l.ds.now) + 1

abbrev pub invariant-prune_branches-loop-i : goal.invariant-prune_branches-loop-i
invariant-prune_branches-loop-i l = l.items.items ≡ map (map_branch (pruned (is_place (get nat_eq l.table)))) (take l.i l.xs)

abbrev pub invariant-prune_defs-loop-i : goal.invariant-prune_defs-loop-i
invariant-prune_defs-loop-i l = l.items.items ≡ map (map_def (pruned (is_place (get nat_eq l.table)))) (take l.i l.xs)
