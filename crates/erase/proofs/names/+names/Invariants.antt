use Rattle.std.proofs.Common.{◌≡◌, ◌||◌, ◌+◌, ◌*◌, ℕ, nat_eq, length, drop}
use Rattle.std.specs.HashSet.{contains}
use Rattle.trees.specs.Measures.{depth, depth_trees}
use Rattle.box_terms.specs.BoxLists.{arms_of, bodies_of}
use Rattle.erase_rules.specs.DirectedProgram.{names_constant_terms}
use Rattle.erase.proofs.names.+names.Given as goal

abbrev pub decreases-add_names : goal.decreases-add_names
decreases-add_names l = 2 * depth l.t.now

abbrev pub decreases-add_branches : goal.decreases-add_branches
decreases-add_branches l = 2 * depth_trees (arms_of l.branches.now) + 1

abbrev pub decreases-add_definitions : goal.decreases-add_definitions
decreases-add_definitions l = 2 * depth_trees (bodies_of (length l.defs.now) l.defs.now) + 1

-- with the names of the bodies that are left the set has all
abbrev pub invariant-add_branches-loop-i : goal.invariant-add_branches-loop-i
invariant-add_branches-loop-i l = (k : ℕ) → (names_constant_terms (record { 0 = k }) (arms_of (drop l.i l.items)) || contains nat_eq l.set k)
    ≡ (names_constant_terms (record { 0 = k }) (arms_of l.items) || contains nat_eq l.fn.set k)

abbrev pub invariant-add_definitions-loop-i : goal.invariant-add_definitions-loop-i
invariant-add_definitions-loop-i l = (n k : ℕ) → (names_constant_terms (record { 0 = k }) (bodies_of n (drop l.i l.items)) || contains nat_eq l.set k)
    ≡ (names_constant_terms (record { 0 = k }) (bodies_of n l.items) || contains nat_eq l.fn.set k)
