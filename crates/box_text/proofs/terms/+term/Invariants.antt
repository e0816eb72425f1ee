use Rattle.std.proofs.Common.{◌≡◌, ◌++◌, ◌+◌, ◌*◌, max, length, drop}
use Rattle.trees.specs.Measures.{depth, depth_trees}
use Rattle.box_terms.specs.BoxLists.{arms_of, bodies_of, rargs_of}
use Rattle.box_text.specs.BoxText.{arms_text, definitions_text}
use Rattle.box_text.proofs.terms.+term.Given as goal

abbrev pub decreases-put_term : goal.decreases-put_term
decreases-put_term l = 4 * depth l.t.now

abbrev pub decreases-put_two : goal.decreases-put_two
decreases-put_two l = 4 * max (depth l.first.now) (depth l.second.now) + 1

abbrev pub decreases-put_branch : goal.decreases-put_branch
decreases-put_branch l = 4 * depth l.branch.now.body + 1

abbrev pub decreases-put_branches : goal.decreases-put_branches
decreases-put_branches l = 4 * depth_trees (arms_of l.branches.now) + 2

abbrev pub decreases-put_definition : goal.decreases-put_definition
decreases-put_definition l = 4 * depth l.def.now.body + 1

abbrev pub decreases-put_definitions : goal.decreases-put_definitions
decreases-put_definitions l = 4 * depth_trees (bodies_of (length l.defs.now) l.defs.now) + 2

-- with the text of what is left it is the whole
abbrev pub invariant-put_branches-loop-i : goal.invariant-put_branches-loop-i
invariant-put_branches-loop-i l = l.out.items ++ arms_text l.names (arms_of (drop l.i l.items)) ≡ l.fn.out.items ++ arms_text l.names (arms_of l.items)

abbrev pub invariant-put_definitions-loop-i : goal.invariant-put_definitions-loop-i
invariant-put_definitions-loop-i l = l.out.items ++ definitions_text l.names (rargs_of (drop l.i l.items)) (bodies_of (length l.items) (drop l.i l.items))
    ≡ l.fn.out.items ++ definitions_text l.names (rargs_of l.items) (bodies_of (length l.items) l.items)
