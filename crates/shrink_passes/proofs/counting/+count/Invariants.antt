use Rattle.std.proofs.Common.{◌≡◌, ℕ, ◌+◌, ◌*◌, length, drop}
use Rattle.std.specs.Prelude.{nat_eq}
use Rattle.std.specs.HashMap.{get}
use Rattle.trees.specs.Measures.{depth, depth_trees}
use Rattle.box_terms.specs.BoxLists.{arms_of, bodies_of}
use Rattle.shrink_passes.specs.Sights.{sight_terms}
use Rattle.shrink_passes.proofs.counting.+count.Given as goal

abbrev pub decreases-count : goal.decreases-count
decreases-count l = 2 * depth l.t.now

abbrev pub decreases-count_branches : goal.decreases-count_branches
decreases-count_branches l = 2 * depth_trees (arms_of l.bs.now) + 1

abbrev pub decreases-count_defs : goal.decreases-count_defs
decreases-count_defs l = 2 * depth_trees (bodies_of (length l.ds.now) l.ds.now) + 1

abbrev pub invariant-count_branches-loop-i : goal.invariant-count_branches-loop-i
invariant-count_branches-loop-i l = (k : ℕ) → sight_terms k l.n (arms_of (drop l.i l.xs)) (get nat_eq l.sights k) ≡ sight_terms k l.n (arms_of l.xs) (get nat_eq l.fn.sights k)

abbrev pub invariant-count_defs-loop-i : goal.invariant-count_defs-loop-i
invariant-count_defs-loop-i l = (k : ℕ) → sight_terms k l.n (bodies_of (length l.xs) (drop l.i l.xs)) (get nat_eq l.sights k) ≡ sight_terms k l.n (bodies_of (length l.xs) l.xs) (get nat_eq l.fn.sights k)
