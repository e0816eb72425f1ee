-- When spans are those of the constraints: each is true of every valuation that meets them, and chains put together are among them.
use Rattle.std.specs.Prelude.{◌≡◌, ℕ, suc, ◌+◌, ◌≤◌, List, length, All}
use Rattle.universe_levels.specs.declared.constraint.Constraint.{Constraint}
use Rattle.universe_levels.specs.declared.constraint.Relation.{Relation}
use Rattle.universe_levels.specs.declared.constraint.Relation.TheVariants.{Lt, Le, Eq}
use Rattle.universe_levels.specs.Consistency.{Solves}
use Rattle.universe_graph.specs.Spans.{chained, span, IsSquare, SpansAreWithin}

-- each span is true of the valuation: where there is a chain from i to j, the value of j is at least that of i and the strict steps
abbrev pub Follows : (ℕ → ℕ) → (ℕ → ℕ → ℕ) → Type 0
Follows v s = (i j : ℕ) → chained (suc (v i)) (s i j) ≤ suc (v j)

-- each span is true of every valuation that meets the constraints
abbrev pub IsSound : ℕ → List Constraint → (ℕ → ℕ → ℕ) → Type 0
IsSound levels cs s = (v : ℕ → ℕ) → Solves levels cs v → Follows v s

-- a constraint's own steps are among the spans
abbrev pub StepsIn : (ℕ → ℕ → ℕ) → Relation → ℕ → ℕ → Type 0
StepsIn s Lt l r = 2 ≤ s l r
StepsIn s Le l r = 1 ≤ s l r
StepsIn s Eq l r = (1 ≤ s l r) × (1 ≤ s r l)

-- the steps of the constraints, of each level to itself, and from Set to each declared level, are among the spans
pub record HasSteps (levels : ℕ) (cs : List Constraint) (s : ℕ → ℕ → ℕ) : Type 0 where
  pub itself : (i : ℕ) → i ≤ levels → 1 ≤ s i i
  pub declared : (l : ℕ) → 1 ≤ l → l ≤ levels → 2 ≤ s 0 l
  pub constraints : All (λ c. StepsIn s c.relation c.left.0 c.right.0) cs

-- chains through a level are among the spans, and it has none to itself with a strict step
pub record IsClosedAt (levels : ℕ) (s : ℕ → ℕ → ℕ) (m : ℕ) : Type 0 where
  pub itself : s m m ≤ 1
  pub chains : (i j : ℕ) → i ≤ levels → j ≤ levels → chained (s i m) (s m j) ≤ s i j

pub record IsClosed (levels : ℕ) (cs : List Constraint) (s : ℕ → ℕ → ℕ) : Type 0 where
  pub sound : IsSound levels cs s
  pub steps : HasSteps levels cs s
  pub closed : (m : ℕ) → m ≤ levels → IsClosedAt levels s m

-- the table of the steps alone
pub record Begins (levels : ℕ) (cs : List Constraint) (rows : List (List ℕ)) : Type 0 where
  pub height : length rows ≡ levels + 1
  pub square : IsSquare rows
  pub steps : HasSteps levels cs (span rows)
  pub sound : IsSound levels cs (span rows)
  pub small : SpansAreWithin 2 rows
