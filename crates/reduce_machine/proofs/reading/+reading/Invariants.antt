use Rattle.std.proofs.Common.{◌≡◌, ◌+◌, ◌*◌, length, map, take}
use Rattle.trees.specs.Tree.{terms_of}
use Rattle.trees.specs.Measures.{depth, depth_trees}
use Rattle.trees.specs.Substitution.{walk}
use Rattle.pc_terms.specs.Lists.{arms_of, depth_defs, walk_branch, walk_def}
use Rattle.pc_terms.specs.View.{tree_of}
use Rattle.pc_terms.specs.declared.term.Node.TheVariants.{Case}
use Rattle.reduce_machine.specs.Reads.{stands_under}
use Rattle.reduce_machine.proofs.reading.+reading.Given as goal

abbrev pub decreases-read_terms : goal.decreases-read_terms
decreases-read_terms l = 10000 * l.env.now.rank + 4 * depth_trees (terms_of l.terms.now) + 3

abbrev pub decreases-read_branches : goal.decreases-read_branches
decreases-read_branches l = 10000 * l.env.now.rank + 4 * depth_trees (arms_of l.branches.now) + 3

abbrev pub decreases-read_defs : goal.decreases-read_defs
decreases-read_defs l = 10000 * l.env.now.rank + 4 * depth_defs l.defs.now + 3

abbrev pub decreases-read_match : goal.decreases-read_match
decreases-read_match l = 10000 * l.env.now.rank + 4 * depth (tree_of (Case l.m.now))

abbrev pub decreases-read_item : goal.decreases-read_item
decreases-read_item l = 10000 * l.item.now.env.rank + 4 * depth l.item.now.term + 2

abbrev pub decreases-read_variable : goal.decreases-read_variable
decreases-read_variable l = 10000 * l.env.now.rank

abbrev pub decreases-read_above : goal.decreases-read_above
decreases-read_above l = 10000 * l.env.now.rank + 4 * depth l.t.now + 1

abbrev pub invariant-read_terms-loop-t : goal.invariant-read_terms-loop-t
invariant-read_terms-loop-t l = l.out ≡ map (walk (stands_under l.env.items) l.k) (take l.t-index l.t-items)

abbrev pub invariant-read_branches-loop-b : goal.invariant-read_branches-loop-b
invariant-read_branches-loop-b l = l.out ≡ map (walk_branch (stands_under l.env.items) l.k) (take l.b-index l.b-items)

abbrev pub invariant-read_defs-loop-d : goal.invariant-read_defs-loop-d
invariant-read_defs-loop-d l = l.out ≡ map (walk_def (stands_under l.env.items) l.k (length l.items)) (take l.d-index l.items)
