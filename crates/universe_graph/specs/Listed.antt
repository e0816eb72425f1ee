-- Constraints listed by their places, from 0.
use Rattle.std.specs.Prelude.{◌≡◌, ℕ, ◌<◌, Bool, true, false, List, length, All, IfSome, slice_get, slice_index_or}
use Rattle.std.specs.List.Sorted.{IsStrictlyIncreasing}
use Rattle.universe_levels.specs.declared.constraint.Constraint.{Constraint}
use Rattle.universe_levels.specs.Valuation.{IsValuation, Meets}

-- the valuation meets the constraint at the place
abbrev pub MeetsAt : (ℕ → ℕ) → List Constraint → ℕ → Type 0
MeetsAt v cs i = IfSome (slice_get cs i) (Meets v)

-- the places rise, and at them are constraints that alone have no valuation
pub record Clashes (levels : ℕ) (cs : List Constraint) (places : List ℕ) : Type 0 where
  pub rising : IsStrictlyIncreasing places
  pub within : All (λ i. i < length cs) places
  pub alone : (v : ℕ → ℕ) → IsValuation levels v → All (MeetsAt v cs) places → ⊥

-- no valuation meets the constraints at the marked places
abbrev pub AreClashing : ℕ → List Constraint → List Bool → Type 0
AreClashing levels cs marks =
    (v : ℕ → ℕ) → IsValuation levels v → ((k : ℕ) → k < length marks → slice_index_or marks k false ≡ true → MeetsAt v cs k) → ⊥
