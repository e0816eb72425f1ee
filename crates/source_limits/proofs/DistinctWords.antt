-- Captured words are distinct and bound outside the lambda, so they are no more than the words there.
use Rattle.std.proofs.Common.{◌≡◌, ℕ, ◌<◌, ◌≤◌, List, [], ◌∷◌, length, Bool, true, false, ◌||◌, eqb, refl, arith}
use Rattle.std.specs.Prelude.{nat_eq, nat_lt, if◌then◌else◌}
use Rattle.std.specs.List.{IsDistinct, list_any, AllByRecursion}
use Rattle.std.proofs.lemmas.Bool.{ltb-true, eqb-true, true≢false}
use Rattle.std.proofs.lemmas.Map.Steps.{length-le_from_distinct_below}
use Rattle.anf_convert.specs.Captured.{is_in, add_word, captured}

apart : (x : ℕ) (ws : List ℕ) → is_in x ws ≡ false → AllByRecursion (λ y. eqb x y ≡ false) ws
apart x [] e = tt
apart x (y ∷ ys) e = go (nat_eq x y) refl e (apart x ys)
  where
    go : (b : Bool) → nat_eq x y ≡ b → (if b then true else is_in x ys) ≡ false → (is_in x ys ≡ false → AllByRecursion (λ z. eqb x z ≡ false) ys) → AllByRecursion (λ z. eqb x z ≡ false) (y ∷ ys)
    go true t e rest = absurd (true≢false e)
    go false t e rest = (t, rest e)

distinct : (d : ℕ) (xs : List ℕ) → IsDistinct eqb (captured d xs)
unfolding IsDistinct
distinct d [] = tt
distinct d (x ∷ xs) = added (nat_lt x d) (captured d xs) (distinct d xs)
  where
    put : (b : Bool) (ws : List ℕ) → is_in x ws ≡ b → IsDistinct eqb ws → IsDistinct eqb (if b then ws else x ∷ ws)
    put true ws e h = h
    put false ws e h = (apart x ws e, h)

    added : (b : Bool) (ws : List ℕ) → IsDistinct eqb ws → IsDistinct eqb (add_word b x ws)
    added true ws h = put (is_in x ws) ws refl h
    added false ws h = h

-- the words that are put in
below_more : (d x q : ℕ) (ws : List ℕ) → (list_any (eqb q) ws ≡ true → q < d) → (b : Bool) → nat_lt x d ≡ b → list_any (eqb q) (add_word b x ws) ≡ true → q < d
below_more d x q ws rest true lt e = put (is_in x ws) e
  where
    here : (b : Bool) → eqb q x ≡ b → (b || list_any (eqb q) ws) ≡ true → q < d
    here true t e = omega (arith, ltb-true x d lt, eqb-true q x t)
    here false t e = rest e

    put : (b : Bool) → list_any (eqb q) (if b then ws else x ∷ ws) ≡ true → q < d
    put true e = rest e
    put false e = here (eqb q x) refl e
below_more d x q ws rest false lt e = rest e

below : (d : ℕ) (xs : List ℕ) (q : ℕ) → list_any (eqb q) (captured d xs) ≡ true → q < d
below d [] q e = cc
below d (x ∷ xs) q e = below_more d x q (captured d xs) (below d xs q) (nat_lt x d) refl e

pub captured_few : (d : ℕ) (xs : List ℕ) → length (captured d xs) ≤ d
captured_few d xs = length-le_from_distinct_below (captured d xs) d (distinct d xs) (below d xs)
