use Rattle.std.proofs.Common.{◌≡◌, ℕ, ◌+◌, ◌*◌, ◌&&◌, length, drop}
use Rattle.trees.specs.Measures.{depth, depth_trees}
use Rattle.box_terms.specs.BoxLists.{arms_of, bodies_of}
use Rattle.shrink_passes.specs.DeadPlaces.{flag_at, are_unnamed}
use Rattle.shrink_passes.proofs.unused.+pass.Given as goal

abbrev pub decreases-pass : goal.decreases-pass
decreases-pass l = 2 * depth l.t.now

abbrev pub decreases-pass_branches : goal.decreases-pass_branches
decreases-pass_branches l = 2 * depth_trees (arms_of l.bs.now) + 1

abbrev pub decreases-pass_defs : goal.decreases-pass_defs
decreases-pass_defs l = 2 * depth_trees (bodies_of (length l.ds.now) l.ds.now) + 1

abbrev pub invariant-pass_branches-loop-i : goal.invariant-pass_branches-loop-i
invariant-pass_branches-loop-i l = record {
  passed : (j : ℕ) → (flag_at j l.spare && are_unnamed (l.n + j) (arms_of (drop l.i l.xs))) ≡ (flag_at j l.fn.spare && are_unnamed (l.n + j) (arms_of l.xs));
  len : length l.spare ≡ length l.fn.spare;
}

abbrev pub invariant-pass_defs-loop-i : goal.invariant-pass_defs-loop-i
invariant-pass_defs-loop-i l = record {
  passed : (j : ℕ) → (flag_at j l.spare && are_unnamed (l.n + j) (bodies_of (length l.xs) (drop l.i l.xs))) ≡ (flag_at j l.fn.spare && are_unnamed (l.n + j) (bodies_of (length l.xs) l.xs));
  len : length l.spare ≡ length l.fn.spare;
}
