use Rattle.std.proofs.Common.{◌≡◌, ◌+◌, ◌*◌, length, take, map}
use Rattle.trees.specs.Measures.{depth, depth_trees}
use Rattle.box_terms.specs.BoxLists.{arms_of, bodies_of}
use Rattle.anf_convert.specs.Writing.{branch_code, def_code}
use Rattle.anf_convert.proofs.norm.+norm.Given as goal

abbrev pub decreases-result : goal.decreases-result
decreases-result l = 4 * depth l.t.now

abbrev pub decreases-applied : goal.decreases-applied
decreases-applied l = 4 * depth l.a.now + 2

abbrev pub decreases-argument : goal.decreases-argument
decreases-argument l = 4 * depth l.t.now + 1

abbrev pub decreases-block : goal.decreases-block
decreases-block l = 4 * depth l.t.now + 1

abbrev pub decreases-definition : goal.decreases-definition
decreases-definition l = 4 * depth l.t.now + 1

abbrev pub decreases-branches : goal.decreases-branches
decreases-branches l = 4 * depth_trees (arms_of l.bs.now) + 2

abbrev pub decreases-definitions : goal.decreases-definitions
decreases-definitions l = 4 * depth_trees (bodies_of (length l.ds.now) l.ds.now) + 2

abbrev pub invariant-branches-loop-i : goal.invariant-branches-loop-i
invariant-branches-loop-i l = record {
  items_are : l.items.items ≡ map (branch_code l.initial.levels l.depth) (take l.i l.arms);
  kept : l.levels ≡ l.initial.levels;
}

abbrev pub invariant-definitions-loop-i : goal.invariant-definitions-loop-i
invariant-definitions-loop-i l = record {
  items_are : l.items.items ≡ map (def_code l.initial.levels l.inner) (take l.i l.defs);
  kept : l.levels ≡ l.initial.levels;
}
