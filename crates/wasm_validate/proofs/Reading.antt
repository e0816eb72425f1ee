-- What holds of each item of a list, by the place of the item.
use Rattle.std.proofs.Common.{◌≡◌, ℕ, ◌+◌, ◌<◌, ◌≤◌, List, Some, refl, ap, sym, ◌∙◌, subst, length, get_or, arith, ⊎_elim}
use Rattle.std.specs.Prelude.{slice_get}
use Rattle.std.proofs.lemmas.Option.{slice_get_read, slice_get_within, same_Some}
use Rattle.std.proofs.lemmas.Bool.{cases_lt}

-- of each item before a place
abbrev pub Before : {X : Type 0} → (ℕ → X → Type 0) → List X → ℕ → Type 0
Before {X} P xs n = (i : ℕ) (x : X) → i < n → slice_get xs i ≡ Some x → P i x

pub here : {X : Type 0} (xs : List X) (at : ℕ) (x : X) → x ≡ get_or xs at x → at < length xs → slice_get xs at ≡ Some x
here xs at x e lt = slice_get_read xs (length xs) at x refl lt e

pub before_next : {X : Type 0} (P : ℕ → X → Type 0) (xs : List X) (at : ℕ) (x : X) → Before P xs at → slice_get xs at ≡ Some x → P at x → Before P xs (at + 1)
before_next {X = X} P xs at x h e p i y lt f = ⊎_elim (λ l. h i y l f) (λ ge. last (omega arith)) (cases_lt i at)
  where
    last : at ≡ i → P i y
    last is = subst (λ k. P k y) is (subst (P at) (same_Some _ _ (sym e ∙ ap (slice_get xs) is ∙ f)) p)

pub of_each : {X : Type 0} (P : ℕ → X → Type 0) (xs : List X) (n : ℕ) → Before P xs n → length xs ≤ n → (i : ℕ) (x : X) → slice_get xs i ≡ Some x → P i x
of_each P xs n h le i x e = let lt : i < length xs = slice_get_within xs i x e in h i x (omega arith) e
