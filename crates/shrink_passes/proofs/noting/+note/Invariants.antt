use Rattle.std.proofs.Common.{◌≡◌, ℕ, ◌+◌, ◌*◌, ◌&&◌, length, drop}
use Rattle.std.specs.Prelude.{nat_eq}
use Rattle.std.specs.HashMap.{get}
use Rattle.trees.specs.Measures.{depth, depth_trees}
use Rattle.box_terms.specs.BoxLists.{arms_of, bodies_of}
use Rattle.shrink_passes.specs.DropParams.{fits_terms}
use Rattle.shrink_passes.specs.DeadPlaces.{is_place}
use Rattle.shrink_passes.proofs.noting.+note.Given as goal

abbrev pub decreases-note : goal.decreases-note
decreases-note l = 4 * depth l.t.now

abbrev pub decreases-note_whole : goal.decreases-note_whole
decreases-note_whole l = 4 * depth l.t.now + 1

abbrev pub decreases-note_branches : goal.decreases-note_branches
decreases-note_branches l = 4 * depth_trees (arms_of l.bs.now) + 2

abbrev pub decreases-note_defs : goal.decreases-note_defs
decreases-note_defs l = 4 * depth_trees (bodies_of (length l.ds.now) l.ds.now) + 2

abbrev pub invariant-note_branches-loop-i : goal.invariant-note_branches-loop-i
invariant-note_branches-loop-i l =
    (k p : ℕ) → (is_place (get nat_eq l.table) k p && fits_terms k p (arms_of (drop l.i l.xs))) ≡ (is_place (get nat_eq l.fn.table) k p && fits_terms k p (arms_of l.xs))

abbrev pub invariant-note_defs-loop-i : goal.invariant-note_defs-loop-i
invariant-note_defs-loop-i l =
    (k p : ℕ) → (is_place (get nat_eq l.table) k p && fits_terms k p (bodies_of (length l.xs) (drop l.i l.xs))) ≡ (is_place (get nat_eq l.fn.table) k p && fits_terms k p (bodies_of (length l.xs) l.xs))
