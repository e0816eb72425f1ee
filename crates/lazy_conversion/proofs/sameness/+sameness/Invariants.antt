use Rattle.std.proofs.Common.{◌≡◌, ◌+◌, ◌*◌, max, map, take}
use Rattle.trees.specs.Tree.{terms_of}
use Rattle.trees.specs.Measures.{depth, depth_trees}
use Rattle.pc_terms.specs.Lists.{arms_of, depth_defs}
use Rattle.pc_terms.specs.View.{tree_of}
use Rattle.pc_terms.specs.declared.term.Node.TheVariants.{Case}
use Rattle.lazy_conversion.specs.Lifted.{seen}
use Rattle.lazy_conversion.specs.Walked.{branch_seen, def_seen}
use Rattle.lazy_conversion.proofs.sameness.+sameness.Given as goal

abbrev pub decreases-same_lists : goal.decreases-same_lists
decreases-same_lists l =
    10000 * (l.p.now.env.now.rank + l.q.now.env.now.rank) + 4 * (depth_trees (terms_of l.a.now) + depth_trees (terms_of l.b.now)) + 6

abbrev pub decreases-same_branches : goal.decreases-same_branches
decreases-same_branches l =
    10000 * (l.p.now.env.now.rank + l.q.now.env.now.rank) + 4 * (depth_trees (arms_of l.a.now) + depth_trees (arms_of l.b.now)) + 6

abbrev pub decreases-same_branch : goal.decreases-same_branch
decreases-same_branch l = 10000 * (l.p.now.env.now.rank + l.q.now.env.now.rank) + 4 * (depth l.a.now.body + depth l.b.now.body) + 5

abbrev pub decreases-same_defs : goal.decreases-same_defs
decreases-same_defs l = 10000 * (l.p.now.env.now.rank + l.q.now.env.now.rank) + 4 * (depth_defs l.a.now + depth_defs l.b.now) + 6

abbrev pub decreases-same_def : goal.decreases-same_def
decreases-same_def l =
    10000 * (l.p.now.env.now.rank + l.q.now.env.now.rank) + 4 * (max (depth l.a.now.ty) (depth l.a.now.body) + max (depth l.b.now.ty) (depth l.b.now.body)) + 5

abbrev pub decreases-same_matches : goal.decreases-same_matches
decreases-same_matches l =
    10000 * (l.p.now.env.now.rank + l.q.now.env.now.rank) + 4 * (depth (tree_of (Case l.a.now)) + depth (tree_of (Case l.b.now)))

abbrev pub decreases-same_whole : goal.decreases-same_whole
decreases-same_whole l =
    10000 * (l.p.now.env.now.rank + l.q.now.env.now.rank) + 4 * (depth (tree_of (Case l.a.now)) + depth (tree_of (Case l.b.now))) + 1

abbrev pub decreases-same_nodes : goal.decreases-same_nodes
decreases-same_nodes l = 10000 * (l.p.now.env.now.rank + l.q.now.env.now.rank) + 4 * (depth (tree_of l.x.now) + depth (tree_of l.y.now)) + 2

abbrev pub decreases-same_below : goal.decreases-same_below
decreases-same_below l = 10000 * (l.p.now.env.now.rank + l.q.now.env.now.rank) + 4 * (depth l.a.now + depth l.b.now) + 4

abbrev pub decreases-same_items : goal.decreases-same_items
decreases-same_items l = 10000 * (l.item.now.env.rank + l.other.now.env.rank) + 4 * (depth l.item.now.term + depth l.other.now.term) + 4

abbrev pub decreases-same_item : goal.decreases-same_item
decreases-same_item l = 10000 * (l.item.now.env.rank + l.q.now.env.now.rank) + 4 * (depth l.item.now.term + depth l.b.now) + 4

abbrev pub decreases-same_variable : goal.decreases-same_variable
decreases-same_variable l = 10000 * (l.p.now.env.now.rank + l.q.now.env.now.rank) + 4 * (1 + depth l.b.now) + 2

abbrev pub decreases-same_at : goal.decreases-same_at
decreases-same_at l = 10000 * (l.p.now.env.now.rank + l.q.now.env.now.rank) + 4 * (depth l.a.now + depth l.b.now) + 3

abbrev pub invariant-same_lists-loop-i : goal.invariant-same_lists-loop-i
invariant-same_lists-loop-i l = map (seen l.p) (take l.i l.xs) ≡ map (seen l.q) (take l.i l.ys)

abbrev pub invariant-same_branches-loop-i : goal.invariant-same_branches-loop-i
invariant-same_branches-loop-i l = map (branch_seen l.p) (take l.i l.xs) ≡ map (branch_seen l.q) (take l.i l.ys)

abbrev pub invariant-same_defs-loop-i : goal.invariant-same_defs-loop-i
invariant-same_defs-loop-i l = map (def_seen l.p l.n) (take l.i l.xs) ≡ map (def_seen l.q l.n) (take l.i l.ys)
