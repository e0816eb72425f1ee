use Rattle.std.proofs.Common.{◌≡◌, ◌+◌, ◌*◌, length, take, map}
use Rattle.std.specs.Prelude.{nat_eq}
use Rattle.std.specs.HashMap.{get}
use Rattle.trees.specs.Measures.{depth, depth_trees}
use Rattle.box_terms.specs.BoxLists.{arms_of, bodies_of}
use Rattle.box_passes.specs.Maps.{map_branch, map_def}
use Rattle.shrink_passes.specs.Filled.{filled}
use Rattle.shrink_passes.proofs.filling.+fill.Given as goal

abbrev pub decreases-fill : goal.decreases-fill
decreases-fill l = 2 * depth l.t.now

abbrev pub decreases-fill_branches : goal.decreases-fill_branches
decreases-fill_branches l = 2 * depth_trees (arms_of l.bs.now) + 1

abbrev pub decreases-fill_defs : goal.decreases-fill_defs
decreases-fill_defs l = 2 * depth_trees (bodies_of (length l.ds.now) l.ds.now) + 1

abbrev pub invariant-fill_branches-loop-i : goal.invariant-fill_branches-loop-i
invariant-fill_branches-loop-i l = l.items.items ≡ map (map_branch (filled (get nat_eq l.bodies))) (take l.i l.xs)

abbrev pub invariant-fill_defs-loop-i : goal.invariant-fill_defs-loop-i
invariant-fill_defs-loop-i l = l.items.items ≡ map (map_def (filled (get nat_eq l.bodies))) (take l.i l.xs)
