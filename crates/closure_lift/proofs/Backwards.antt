-- Lists that are gone through from the end.
use Rattle.std.proofs.Common.{◌≡◌, ℕ, suc, ◌+◌, ◌-◌, ◌<◌, List, ◌∷◌, length, drop, reverse, get_or, ap, ◌∙◌, arith, drop-cons}
use Rattle.std.proofs.lemmas.List.{get_or-reverse, length-reverse}

-- one more element, the one before
pub back_step : {A : Type 0} (xs : List A) (p : ℕ) (d : A) → p < length xs → drop (length xs - (p + 1)) xs ≡ get_or xs (length xs - 1 - p) d ∷ drop (length xs - p) xs
back_step xs p d lt =
    let i : length xs - (p + 1) ≡ length xs - 1 - p = omega arith in
    let j : suc (length xs - 1 - p) ≡ length xs - p = omega arith in
    ap (λ k. drop k xs) i ∙ drop-cons xs (length xs - 1 - p) d (omega arith) ∙ ap (λ k. get_or xs (length xs - 1 - p) d ∷ drop k xs) j

-- the same in the list turned round
pub turned_step : {A : Type 0} (xs : List A) (p : ℕ) (d : A) → p < length xs → drop p (reverse xs) ≡ get_or xs (length xs - 1 - p) d ∷ drop (p + 1) (reverse xs)
turned_step xs p d lt =
    let n : length (reverse xs) ≡ length xs = length-reverse xs in
    let j : suc p ≡ p + 1 = omega arith in
    drop-cons (reverse xs) p d (omega (arith, n)) ∙ ap (λ x. x ∷ drop (suc p) (reverse xs)) (get_or-reverse xs p d lt) ∙ ap (λ k. get_or xs (length xs - 1 - p) d ∷ drop k (reverse xs)) j
