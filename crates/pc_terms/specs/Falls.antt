-- Each term in a list is smaller than the list.
use Rattle.std.specs.Prelude.{ℕ, ◌+◌, ◌*◌, ◌≤◌, max, List, [], ◌∷◌, length}
use Rattle.std.proofs.Common.{arith}
use Rattle.pc_terms.specs.declared.term.Branch.{Branch}
use Rattle.pc_terms.specs.declared.term.Def.{Def}
use Rattle.pc_terms.specs.declared.term.BoxedMatch.TheDeep.{deep-Branch, deep-Def, size-Branch, size-Def, size-Term, size-Terms, size-Branches, size-Defs}
use Rattle.trees.specs.Tree.{terms_of}
use Rattle.pc_terms.specs.Syntax.{Term}
use Rattle.trees.specs.Measures.{depth, depth_trees}
use Rattle.pc_terms.specs.Lists.{arms_of, types_of, bodies_of, depth_defs}
use denote.Param.Weighed.{most}

pub most_le-depth_trees : (ts : List Term) → most (λ t. 3 * depth t + 1) ts ≤ 3 * depth_trees (terms_of ts) + 1
most_le-depth_trees [] = omega arith
most_le-depth_trees (t ∷ ts) = omega (arith, most_le-depth_trees ts)

pub most_le-depth_arms : (bs : List Branch) → most (λ x. deep-Branch x) bs ≤ 3 * depth_trees (arms_of bs) + 1
most_le-depth_arms [] = omega arith
most_le-depth_arms (b ∷ bs) = omega (arith, most_le-depth_arms bs)

most_le-depth_bodies : (m : ℕ) (ds : List Def) → most (λ x. deep-Def x) ds ≤ 3 * max (depth_trees (types_of ds)) (depth_trees (bodies_of m ds)) + 1
most_le-depth_bodies m [] = omega arith
most_le-depth_bodies m (d ∷ ds) = omega (arith, most_le-depth_bodies m ds)

pub most_le-depth_defs : (ds : List Def) → most (λ x. deep-Def x) ds ≤ 3 * depth_defs ds + 1
most_le-depth_defs ds = most_le-depth_bodies (length ds) ds

-- the same for a function over a slice of them, whose measure is the largest size in it
pub most_size-trees : (ts : List Term) → most (λ t. size-Term t) ts ≤ size-Terms ts
most_size-trees [] = omega arith
most_size-trees (t ∷ ts) = omega (arith, most_size-trees ts)

pub most_size-arms : (bs : List Branch) → most (λ x. size-Branch x) bs ≤ size-Branches bs
most_size-arms [] = omega arith
most_size-arms (b ∷ bs) = omega (arith, most_size-arms bs)

-- (no deeper than another list, so that the factor in `size-Defs` need not be written)
most_size-under : (m : ℕ) (ds es : List Def) → max (depth_trees (types_of ds)) (depth_trees (bodies_of m ds)) ≤ depth_defs es → most (λ x. size-Def x) ds ≤ size-Defs es
most_size-under m [] es h = omega arith
most_size-under m (d ∷ ds) es h = omega (arith, h, most_size-under m ds es (omega (arith, h)))

pub most_size-defs : (ds : List Def) → most (λ x. size-Def x) ds ≤ size-Defs ds
most_size-defs ds = most_size-under (length ds) ds ds (omega arith)

pub ruleset falls = (most_size-trees, most_size-arms, most_size-defs)
