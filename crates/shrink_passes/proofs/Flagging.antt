-- Truths by place: lists that lose some, and truths in the other order.
use Rattle.std.proofs.Common.{◌≡◌, ℕ, zero, suc, ◌+◌, ◌<◌, ◌≤◌, Bool, true, false, ◌&&◌, List, [], ◌∷◌, ◌++◌, length, get_or, reverse, set, take, Result, Ok, Err, refl, sym, ap, ◌∙◌, subst, arith}
use Rattle.std.specs.Prelude.{nat_eq, IfOk, if◌then◌else◌}
use Rattle.std.proofs.lemmas.Bool.{eqb-true, eq-eqb}
use Rattle.std.proofs.lemmas.List.{reverse-append, length-reverse}
use Rattle.std.proofs.Math.Bool.{and-true, and-false}
use Rattle.std.proofs.Math.Dec.{eqb-suc-suc}
use Rattle.shrink_passes.specs.DeadPlaces.{flag_at, is_below}

pub nat_eq_no : (a b : ℕ) → (a ≡ b → ⊥) → nat_eq a b ≡ false
nat_eq_no a b h = grind (arith, h)

-- numbers below another

pub below_true : (p n : ℕ) → p < n → is_below p n ≡ true
below_true p zero l = absurd (omega arith)
below_true zero (suc n) l = refl
below_true (suc p) (suc n) l = below_true p n (omega arith)

pub below_false : (p n : ℕ) → n ≤ p → is_below p n ≡ false
below_false p zero l = refl
below_false zero (suc n) l = absurd (omega arith)
below_false (suc p) (suc n) l = below_false p n (omega arith)

-- as many truths

abbrev pub trues : ℕ → List Bool
trues zero = []
trues (suc n) = true ∷ trues n

pub trues_more : (n : ℕ) → trues n ++ (true ∷ []) ≡ trues (suc n)
trues_more zero = refl
trues_more (suc n) = ap (λ xs. true ∷ xs) (trues_more n)

pub flag_trues : (n p : ℕ) → flag_at p (trues n) ≡ is_below p n
flag_trues zero p = refl
flag_trues (suc n) zero = refl
flag_trues (suc n) (suc p) = flag_trues n p

pub length_trues : (n : ℕ) → length (trues n) ≡ n
length_trues zero = refl
length_trues (suc n) = ap suc (length_trues n)

-- what is lost

pub flag_cleared : (xs : List Bool) (i p : ℕ) → flag_at p (set xs i false) ≡ (flag_at p xs && (if nat_eq i p then false else true))
flag_cleared [] i p = refl
flag_cleared (x ∷ xs) zero zero = sym (and-false x)
flag_cleared (x ∷ xs) zero (suc p) = let e : nat_eq 0 (suc p) ≡ false = grind arith in sym (ap (λ z. flag_at p xs && (if z then false else true)) e ∙ and-true (flag_at p xs))
flag_cleared (x ∷ xs) (suc i) zero = let e : nat_eq (suc i) 0 ≡ false = grind arith in sym (ap (λ z. x && (if z then false else true)) e ∙ and-true x)
flag_cleared (x ∷ xs) (suc i) (suc p) = flag_cleared xs i p ∙ ap (λ z. flag_at p xs && (if z then false else true)) (sym (eqb-suc-suc i p))

pub flag_there : (xs : List Bool) (p : ℕ) (x : Bool) → p < length xs → get_or xs p x ≡ flag_at p xs
flag_there [] p x l = absurd (omega arith)
flag_there (y ∷ xs) zero x l = refl
flag_there (y ∷ xs) (suc p) x l = flag_there xs p x (omega arith)

pub flag_past : (xs : List Bool) (p : ℕ) → length xs ≤ p → flag_at p xs ≡ false
flag_past [] p l = refl
flag_past (x ∷ xs) zero l = absurd (omega arith)
flag_past (x ∷ xs) (suc p) l = flag_past xs p (omega arith)

pub flag_not_cleared : (xs : List Bool) (i p : ℕ) → length xs ≤ i → flag_at p xs ≡ (flag_at p xs && (if nat_eq i p then false else true))
flag_not_cleared xs i p l = either (nat_eq i p) refl
  where
    either : (z : Bool) → nat_eq i p ≡ z → flag_at p xs ≡ (flag_at p xs && (if z then false else true))
    either true e = let q = eqb-true i p e in flag_past xs p (subst (λ n. length xs ≤ n) q l) ∙ sym (and-false (flag_at p xs))
    either false e = sym (and-true (flag_at p xs))

pub flag_taken : (n : ℕ) (xs : List Bool) (p : ℕ) → flag_at p (take n xs) ≡ (flag_at p xs && is_below p n)
flag_taken zero xs p = sym (and-false (flag_at p xs))
flag_taken (suc n) [] p = refl
flag_taken (suc n) (x ∷ xs) zero = sym (and-true x)
flag_taken (suc n) (x ∷ xs) (suc p) = flag_taken n xs p

-- in the other order

flag_before : (xs ys : List Bool) (p : ℕ) → p < length xs → flag_at p (xs ++ ys) ≡ flag_at p xs
flag_before [] ys p l = absurd (omega arith)
flag_before (x ∷ xs) ys zero l = refl
flag_before (x ∷ xs) ys (suc p) l = flag_before xs ys p (omega arith)

flag_last : (xs : List Bool) (y : Bool) (p : ℕ) → p ≡ length xs → flag_at p (xs ++ (y ∷ [])) ≡ y
flag_last [] y p e = ap (λ n. flag_at n (y ∷ [])) e
flag_last (x ∷ xs) y zero e = absurd (omega arith)
flag_last (x ∷ xs) y (suc p) e = flag_last xs y p (omega arith)

pub flag_reversed : (xs : List Bool) (p q : ℕ) → p + q + 1 ≡ length xs → flag_at p (reverse xs) ≡ flag_at q xs
flag_reversed [] p q e = absurd (omega arith)
flag_reversed (x ∷ xs) p zero e = ap (flag_at p) (reverse-append (x ∷ []) xs) ∙ flag_last (reverse xs) x p (omega (arith, length-reverse xs))
flag_reversed (x ∷ xs) p (suc q) e = ap (flag_at p) (reverse-append (x ∷ []) xs) ∙ flag_before (reverse xs) (x ∷ []) p (omega (arith, length-reverse xs)) ∙ flag_reversed xs p q (omega arith)

-- what an answer says, said otherwise
pub if_ok_map : {V E : Type 0} {P Q : V → Type 0} (r : Result V E) → ((v : V) → P v → Q v) → IfOk r P → IfOk r Q
if_ok_map (Ok v) f h = f v h
if_ok_map (Err e) f h = h
