-- Valuations: what number each level stands for, and so each level expression and each universe.
use Rattle.std.specs.Prelude.{◌≡◌, ℕ, ◌+◌, ◌<◌, ◌≤◌, max, List, [], ◌∷◌}
use Rattle.universe_levels.specs.declared.constraint.Constraint.{Constraint}
use Rattle.universe_levels.specs.declared.constraint.Relation.{Relation}
use Rattle.universe_levels.specs.declared.constraint.Relation.TheVariants.{Lt, Le, Eq}
use Rattle.universe_levels.specs.declared.level.LevelExpr.{LevelExpr}

-- Set is 0, and each declared level is at least 1
pub record IsValuation (levels : ℕ) (v : ℕ → ℕ) : Type 0 where
  pub set : v 0 ≡ 0
  pub declared : (l : ℕ) → 1 ≤ l → l ≤ levels → 1 ≤ v l

-- the value of a level expression: its level's value plus what is added
abbrev pub value_of_part : (ℕ → ℕ) → LevelExpr → ℕ
value_of_part v e = v e.level.0 + e.add

-- the value of a universe: the greatest value of its level expressions
abbrev pub value_of : (ℕ → ℕ) → List LevelExpr → ℕ
value_of v [] = 0
value_of v (e ∷ es) = max (value_of_part v e) (value_of v es)

abbrev pub Related : Relation → ℕ → ℕ → Type 0
Related Lt m n = m < n
Related Le m n = m ≤ n
Related Eq m n = m ≡ n

-- the valuation meets the constraint
abbrev pub Meets : (ℕ → ℕ) → Constraint → Type 0
Meets v c = Related c.relation (v c.left.0) (v c.right.0)
