-- What is left of a list from an item on, and what stands before the next.
use Rattle.std.proofs.Common.{◌≡◌, ◌∙◌, sym, ap, ℕ, zero, suc, ◌<◌, ◌≤◌, ◌+◌, min, ◌⊎◌, inl, inr, List, [], ◌∷◌, ◌++◌, length, drop, take, get_or, arith}
use Rattle.std.proofs.lemmas.List.{drop_all, take_more}
pub use Rattle.trees.proofs.Lists.{next_is}

pub none_left : {A : Type 0} (xs : List A) (i : ℕ) → length xs ≤ i → drop i xs ≡ []
none_left xs i h = drop_all i xs h

-- the items before one, and it
pub take_next : {A : Type 0} (xs : List A) (i : ℕ) (a : A) → i < length xs → a ≡ get_or xs i a → take (i + 1) xs ≡ take i xs ++ (a ∷ [])
take_next xs i a h e = take_more xs i a h ∙ ap (λ y. take i xs ++ (y ∷ [])) (sym e)

-- the least of two numbers is one of them
sucs : {a b i : ℕ} → (a ≤ i) ⊎ (b ≤ i) → (suc a ≤ suc i) ⊎ (suc b ≤ suc i)
sucs (inl h) = inl (omega arith)
sucs (inr h) = inr (omega arith)

pub min_either : (a b i : ℕ) → min a b ≤ i → (a ≤ i) ⊎ (b ≤ i)
min_either zero b i h = inl (omega arith)
min_either (suc a) zero i h = inr (omega arith)
min_either (suc a) (suc b) zero h = absurd (omega (arith, h))
min_either (suc a) (suc b) (suc i) h = sucs (min_either a b i (omega (arith, h)))
