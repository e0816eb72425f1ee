-- Known bytes over two calls.
use Rattle.std.proofs.Common.{◌≡◌, ℕ, ◌+◌, ◌≤◌, List, [], ◌∷◌, ◌++◌, length, take, drop, Option, Some, None, refl, sym, ap, ◌∙◌, arith, append_assoc, zero, suc, zero-add, ◌-◌, length-drop, slice_range}
use Rattle.std.proofs.lemmas.List.{drop-drop, length-take-le, take-append-drop, take-append-le}
use Rattle.std.proofs.Math.Seq.{take_all}
use Rattle.std.specs.Io.KnownBytes.{Consumes}
use Rattle.std.specs.Io.KnownBytes.{Appends}
use Rattle.kio.specs.Known.{StillTells}

pub tells-again : (a b c : Option (List ℕ)) → StillTells a b → StillTells b c → StillTells a c
tells-again None None None p q = tt
tells-again (Some x) (Some y) (Some z) p q = tt
tells-again None None (Some z) p q = absurd q
tells-again (Some x) (Some y) None p q = absurd q
tells-again None (Some y) c p q = absurd p
tells-again (Some x) None c p q = absurd p

take-none : (n : ℕ) → take {A = ℕ} n [] ≡ []
take-none zero = refl
take-none (suc n) = refl

take-sum : (i n : ℕ) (bs : List ℕ) → take i bs ++ take n (drop i bs) ≡ take (i + n) bs
take-sum zero n bs = rw zero-add refl
take-sum (suc i) n [] = let num : suc i + n ≡ suc (i + n) = omega arith in rw num (take-none n)
take-sum (suc i) n (b ∷ bs) = let num : suc i + n ≡ suc (i + n) = omega arith in rw num (ap (λ (xs : List ℕ). b ∷ xs) (take-sum i n bs))

pub rest-is : (bs : List ℕ) (i : ℕ) → take (length bs - i) (drop i bs) ≡ drop i bs
rest-is bs i = take_all (length bs - i) (drop i bs) (omega (arith, length-drop i bs))

pub appends-more : (a b c : Option (List ℕ)) (bs : List ℕ) (i n : ℕ) → Appends a b (take i bs) → Appends b c (take n (drop i bs)) → Appends a c (take (i + n) bs)
appends-more None b c bs i n p q = tt
appends-more (Some x) None c bs i n p q = absurd p
appends-more (Some x) (Some y) None bs i n p q = absurd q
appends-more (Some x) (Some y) (Some z) bs i n p q = q ∙ ap (λ (w : List ℕ). w ++ take n (drop i bs)) p ∙ append_assoc x (take i bs) (take n (drop i bs)) ∙ ap (λ (w : List ℕ). x ++ w) (take-sum i n bs)

pub consumes-more : (a b c : Option (List ℕ)) (xs ys : List ℕ) → Consumes a b xs → Consumes b c ys → Consumes a c (xs ++ ys)
consumes-more None b c xs ys p q = tt
consumes-more (Some x) None c xs ys p q = absurd p
consumes-more (Some x) (Some y) None xs ys p q = absurd q
consumes-more (Some x) (Some y) (Some z) xs ys p q = p ∙ ap (λ (w : List ℕ). xs ++ w) q ∙ sym (append_assoc xs ys z)

-- what was copied to a buffer's front and what comes after it in the bytes are the bytes that were left
pub copied-front : (bs new behind : List ℕ) (at n : ℕ) → new ≡ slice_range bs at (at + n) → n ≤ length bs - at → drop at bs ≡ take n (new ++ behind) ++ drop (at + n) bs
copied-front bs new behind at n copied within =
    let width : at + n - at ≡ n = omega arith in
    let here : new ≡ take n (drop at bs) = rw width at copied in
    let size : length new ≡ n = rw here (length-take-le n (drop at bs) (omega (arith, length-drop at bs, within))) in
    let front : take n (new ++ behind) ≡ new = take-append-le n new behind (omega (arith, size)) ∙ take_all n new (omega (arith, size)) in
    let sum : at + n ≡ n + at = omega arith in
    sym (ap (λ (w : List ℕ). w ++ drop (at + n) bs) (front ∙ here) ∙ ap (λ (w : List ℕ). take n (drop at bs) ++ w) (sym (drop-drop n at bs)) ∙ take-append-drop n (drop at bs))
