-- What constraints on universe levels entail, as a test that computes. The span from a level to another is one more than the most strict
-- steps in a chain of constraints from the one up to the other, or 0 where there is no chain.
use Rattle.std.specs.Prelude.{ℕ, zero, suc, ◌==◌, ◌&&◌, ◌||◌, Bool, true, false, nat_lt, nat_le, if◌then◌else◌, max, List, [], ◌∷◌}
use Rattle.universe_levels.specs.declared.level.LevelExpr.{LevelExpr}
use Rattle.universe_levels.specs.declared.constraint.Constraint.{Constraint}
use Rattle.universe_levels.specs.declared.constraint.Relation.{Relation}
use Rattle.universe_levels.specs.declared.constraint.Relation.TheVariants.{Lt, Le, Eq}
use Rattle.universe_graph.specs.Spans.{chained, through}
use Rattle.calculus_rules.specs.Environment.{Env}
use Rattle.pc_rules.specs.DirectedComparison.{Test}

-- i and j are the two ends
abbrev pub are_ends : ℕ → ℕ → ℕ → ℕ → Bool
are_ends l r i j = (i == l) && (j == r)

-- the step of a constraint between levels l and r, as a span
abbrev pub step_of : Relation → ℕ → ℕ → ℕ → ℕ → ℕ
step_of Lt l r i j = if are_ends l r i j then 2 else 0
step_of Le l r i j = if are_ends l r i j then 1 else 0
step_of Eq l r i j = if are_ends l r i j || are_ends r l i j then 1 else 0

abbrev pub constraint_steps : List Constraint → ℕ → ℕ → ℕ
constraint_steps [] i j = 0
constraint_steps (c ∷ cs) i j = max (step_of c.relation c.left.0 c.right.0 i j) (constraint_steps cs i j)

-- no step from each level to itself, and a strict one from Set to each declared level
abbrev pub own_step : ℕ → ℕ → ℕ → ℕ
own_step levels i j = max (if i == j then 1 else 0) (if (i == 0) && (nat_le 1 j && nat_le j levels) then 2 else 0)

abbrev pub first_spans : ℕ → List Constraint → ℕ → ℕ → ℕ
first_spans levels cs i j = max (own_step levels i j) (constraint_steps cs i j)

-- with all chains through the levels below a number
abbrev pub closed_below : ℕ → (ℕ → ℕ → ℕ) → ℕ → ℕ → ℕ
closed_below zero s = s
closed_below (suc k) s = through (closed_below k s) k

abbrev pub spans : ℕ → List Constraint → ℕ → ℕ → ℕ
spans levels cs = closed_below (suc levels) (first_spans levels cs)

-- a level expression is at most another
abbrev pub covers_part : (ℕ → ℕ → ℕ) → LevelExpr → LevelExpr → Bool
covers_part s low high = nat_lt low.add (chained (suc high.add) (s low.level.0 high.level.0))

abbrev pub some_covers : (ℕ → ℕ → ℕ) → LevelExpr → List LevelExpr → Bool
some_covers s low [] = false
some_covers s low (high ∷ hs) = covers_part s low high || some_covers s low hs

abbrev pub covers : (ℕ → ℕ → ℕ) → List LevelExpr → List LevelExpr → Bool
covers s [] high = true
covers s (low ∷ ls) high = some_covers s low high && covers s ls high

-- the first universe is entailed to be at most the second, by constraints on so many declared levels
unfoldable pub entailed_by : ℕ → List Constraint → Test
entailed_by levels cs low high = covers (spans levels cs) low high

-- the test of what an environment's constraints entail
abbrev pub test_of : Env → Test
test_of E = entailed_by E.levels E.constraints
