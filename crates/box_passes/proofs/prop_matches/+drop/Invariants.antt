use Rattle.std.proofs.Common.{◌≡◌, ◌+◌, ◌*◌, length, take, map}
use Rattle.trees.specs.Measures.{depth, depth_trees}
use Rattle.box_terms.specs.BoxLists.{arms_of, bodies_of}
use Rattle.box_passes.specs.PropMatch.{drop_matches}
use Rattle.box_passes.specs.Maps.{map_branch, map_def}
use Rattle.box_passes.proofs.prop_matches.+drop.Given as goal

abbrev pub decreases-dropped : goal.decreases-dropped
decreases-dropped l = 2 * depth l.t.now

abbrev pub decreases-dropped_branches : goal.decreases-dropped_branches
decreases-dropped_branches l = 2 * depth_trees (arms_of l.bs.now) + 1

abbrev pub decreases-dropped_defs : goal.decreases-dropped_defs
decreases-dropped_defs l = 2 * depth_trees (bodies_of (length l.ds.now) l.ds.now) + 1

abbrev pub invariant-dropped_branches-loop-i : goal.invariant-dropped_branches-loop-i
invariant-dropped_branches-loop-i l = l.items.items ≡ map (map_branch (drop_matches l.fs)) (take l.i l.xs)

abbrev pub invariant-dropped_defs-loop-i : goal.invariant-dropped_defs-loop-i
invariant-dropped_defs-loop-i l = l.items.items ≡ map (map_def (drop_matches l.fs)) (take l.i l.xs)
