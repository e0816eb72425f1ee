-- Spans: one more than the largest number of strict steps in a chain of constraints from a level up to another, and 0 where there is no chain.
use Rattle.std.specs.Prelude.{◌≡◌, ℕ, zero, suc, ◌+◌, ◌<◌, ◌≤◌, max, List, [], length, All, Any, slice_index_or}
use Rattle.universe_levels.specs.declared.level.LevelExpr.{LevelExpr}

-- the span of two chains, one after the other
abbrev pub chained : ℕ → ℕ → ℕ
chained zero b = zero
chained (suc a) zero = zero
chained (suc a) (suc b) = suc (a + b)

-- the greater span: of the chains known, or through a level
abbrev pub through : (ℕ → ℕ → ℕ) → ℕ → ℕ → ℕ → ℕ
through s k i j = max (s i j) (chained (s i k) (s k j))

-- the span in a table
abbrev pub span : List (List ℕ) → ℕ → ℕ → ℕ
span rows i j = slice_index_or (slice_index_or rows i []) j 0

-- each row is as long as there are rows
abbrev pub IsSquare : List (List ℕ) → Type 0
IsSquare rows = All (λ row. length row ≡ length rows) rows

abbrev pub SpansAreWithin : ℕ → List (List ℕ) → Type 0
SpansAreWithin limit rows = (i j : ℕ) → span rows i j ≤ limit

-- t has the spans of s, and one from a level to another of at least that size
pub record HasOffered (s t : ℕ → ℕ → ℕ) (from to size : ℕ) : Type 0 where
  pub here : t from to ≡ max (s from to) size
  pub others : (i j : ℕ) → ((i ≡ from) × (j ≡ to) → ⊥) → t i j ≡ s i j

-- by the spans, the first level expression is at most the second
abbrev pub Covers : (ℕ → ℕ → ℕ) → LevelExpr → LevelExpr → Type 0
Covers s low high = low.add < chained (suc high.add) (s low.level.0 high.level.0)

-- each level expression of the first is at most one of the second
abbrev pub IsCovered : (ℕ → ℕ → ℕ) → List LevelExpr → List LevelExpr → Type 0
IsCovered s low high = All (λ l. Any (Covers s l) high) low
