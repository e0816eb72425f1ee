use Rattle.std.proofs.Common.{◌≡◌, ◌+◌, ◌*◌, length, take, map}
use Rattle.trees.specs.Measures.{depth, depth_trees}
use Rattle.box_terms.specs.BoxLists.{arms_of, bodies_of}
use Rattle.box_passes.specs.Heads.{head}
use Rattle.box_passes.specs.Maps.{map_branch, map_def}
use Rattle.box_passes.proofs.saturation.+saturate.Given as goal

abbrev pub decreases-saturated : goal.decreases-saturated
decreases-saturated l = 2 * depth l.t.now

abbrev pub decreases-saturated_branches : goal.decreases-saturated_branches
decreases-saturated_branches l = 2 * depth_trees (arms_of l.bs.now) + 1

abbrev pub decreases-saturated_defs : goal.decreases-saturated_defs
decreases-saturated_defs l = 2 * depth_trees (bodies_of (length l.ds.now) l.ds.now) + 1

abbrev pub invariant-saturated_branches-loop-i : goal.invariant-saturated_branches-loop-i
invariant-saturated_branches-loop-i l = l.items.items ≡ map (map_branch (λ t. head l.fs t 0)) (take l.i l.xs)

abbrev pub invariant-saturated_defs-loop-i : goal.invariant-saturated_defs-loop-i
invariant-saturated_defs-loop-i l = l.items.items ≡ map (map_def (λ t. head l.fs t 0)) (take l.i l.xs)
