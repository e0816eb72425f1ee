-- Lists of places that grow at their end.
use Rattle.std.proofs.Common.{◌≡◌, ℕ, zero, suc, ◌+◌, ◌<◌, inl, inr, List, [], ◌∷◌, ◌++◌, length, get_or, ap, ◌∙◌, arith}
use Rattle.std.specs.Prelude.{IfSome}
use Rattle.std.specs.List.{All, Contains, slice_get}
use Rattle.std.specs.List.Sorted.{IsStrictlyIncreasing}
use Rattle.std.proofs.lemmas.Bool.{cases_lt}
use Rattle.std.proofs.lemmas.Grind.{common_steps}
use Rattle.std.proofs.lemmas.List.Elements.{All-push, All-weaker}

pub rising-push : (xs : List ℕ) (i : ℕ) → IsStrictlyIncreasing xs → All (λ k. k < i) xs → IsStrictlyIncreasing (xs ++ i ∷ [])
rising-push xs i rising below = λ k h.
    let long : length (xs ++ i ∷ []) ≡ length xs + 1 = grind (arith, common_steps) in
    elim (cases_lt (k + 1) (length xs)) [
      | inl l ↦
          let first : get_or (xs ++ i ∷ []) k 0 ≡ get_or xs k 0 = grind (arith, common_steps) in
          let second : get_or (xs ++ i ∷ []) (k + 1) 0 ≡ get_or xs (k + 1) 0 = grind (arith, common_steps) in
          omega (arith, rising k l)
      | inr l ↦
          let at : k + 1 ≡ length xs = omega arith in
          let first : get_or (xs ++ i ∷ []) k 0 ≡ get_or xs k 0 = grind (arith, common_steps) in
          let second : get_or (xs ++ i ∷ []) (k + 1) 0 ≡ i = ap (λ n. get_or (xs ++ i ∷ []) n 0) at ∙ grind (arith, common_steps) in
          omega (arith, below k 0 (omega arith))
    ]

pub within-push : (xs : List ℕ) (i : ℕ) → All (λ k. k < i) xs → All (λ k. k < i + 1) (xs ++ i ∷ [])
within-push xs i below = All-push (λ k. k < i + 1) xs i (All-weaker (λ k. k < i) (λ k. k < i + 1) (λ k h. omega arith) xs below) (omega arith)

pub contains-push : (xs : List ℕ) (i k : ℕ) → Contains xs k → Contains (xs ++ i ∷ []) k
contains-push xs i k c =
    let inside : c.0 < length xs = c.1 in
    let long : length (xs ++ i ∷ []) ≡ length xs + 1 = grind (arith, common_steps) in
    let same : get_or (xs ++ i ∷ []) c.0 k ≡ get_or xs c.0 k = grind (arith, common_steps) in
    (c.0, omega arith, same ∙ c.2)

pub contains-last : (xs : List ℕ) (i : ℕ) → Contains (xs ++ i ∷ []) i
contains-last xs i =
    let long : length (xs ++ i ∷ []) ≡ length xs + 1 = grind (arith, common_steps) in
    (length xs, omega arith, grind (arith, common_steps))

-- the element at a place, and what holds of it
pub at-place : {X : Type 0} (P : X → Type 0) (xs : List X) (k : ℕ) (d : X) → k < length xs → IfSome (slice_get xs k) P → P (get_or xs k d)
at-place P [] k d h p = absurd (omega arith)
at-place P (x ∷ xs) zero d h p = p
at-place P (x ∷ xs) (suc k) d h p = at-place P xs k d (omega arith) p
