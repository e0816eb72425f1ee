-- Constraints and all valuations: what has a valuation, and what holds under each.
use Rattle.std.specs.Prelude.{ℕ, ◌≤◌, List, All}
use Rattle.universe_levels.specs.declared.constraint.Constraint.{Constraint}
use Rattle.universe_levels.specs.declared.level.LevelExpr.{LevelExpr}
use Rattle.universe_levels.specs.declared.sort.Sort.{Sort}
use Rattle.universe_levels.specs.declared.sort.Sort.TheVariants.{Prop, Of}
use Rattle.universe_levels.specs.Valuation.{IsValuation, Meets, value_of}

-- a valuation of that many declared levels that meets each constraint
pub record Solves (levels : ℕ) (cs : List Constraint) (v : ℕ → ℕ) : Type 0 where
  pub valuation : IsValuation levels v
  pub meets : All (Meets v) cs

-- some valuation meets all constraints
abbrev pub IsConsistent : ℕ → List Constraint → Type 0
IsConsistent levels cs = (v : ℕ → ℕ) × Solves levels cs v

-- under every valuation that meets the constraints the first universe is at most the second
abbrev pub Entails : ℕ → List Constraint → List LevelExpr → List LevelExpr → Type 0
Entails levels cs low high = (v : ℕ → ℕ) → Solves levels cs v → value_of v low ≤ value_of v high

-- the constraints speak of Set and the declared levels alone
abbrev pub AreOver : ℕ → List Constraint → Type 0
AreOver levels cs = All (λ c. (c.left.0 ≤ levels) × (c.right.0 ≤ levels)) cs

-- so does the universe
abbrev pub IsOver : ℕ → List LevelExpr → Type 0
IsOver levels ps = All (λ e. e.level.0 ≤ levels) ps

-- and the sort
abbrev pub IsSortOver : ℕ → Sort → Type 0
IsSortOver levels Prop = Unit {0}
IsSortOver levels (Of u) = IsOver levels u
