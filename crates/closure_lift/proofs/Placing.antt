-- Where the words are among what the variables of a block hold.
use Rattle.std.proofs.Common.{◌≡◌, ℕ, zero, suc, ◌+◌, ◌-◌, ◌<◌, List, drop, [], ◌∷◌, length, Some, None, Bool, true, false, refl, sym, ap, ◌∙◌, arith}
use Rattle.std.specs.Prelude.{nat_eq, if◌then◌else◌}
use Rattle.std.proofs.lemmas.Option.{none-some, same_Some}
use Rattle.closure_lift.specs.Lift.{Holds, Made, position, same_slot}
use Rattle.std.specs.HashMap.{HashMap, get}
use Rattle.closure_lift.specs.Frames.{slot_of, slots_of, place_of, uncovered, ArePlaced}
use Rattle.closure_lift.specs.declared.frame.Held.{Held}
use Rattle.closure_lift.specs.declared.frame.Held.TheVariants as held

pub slots_length : (hs : List Held) → length (slots_of hs) ≡ length hs
slots_length [] = refl
slots_length (h ∷ hs) = ap suc (slots_length hs)

pub record IsAt (x : ℕ) (hs : List Held) (p : ℕ) : Type 0 where
  pub below : p < length hs
  pub at : position (Holds x) (slots_of hs) ≡ length hs - 1 - p

-- a place that is known
pub place_is : (x : ℕ) (hs : List Held) (p : ℕ) → place_of x hs ≡ Some p → IsAt x hs p
place_is x [] p e = absurd (none-some p e)
place_is x (held.Word y before ∷ hs) p e = let r = go (nat_eq x y) e (place_is x hs p) in record { below = r.0; at = r.1 }
  where
    go : (b : Bool) → (if b then Some (length hs) else place_of x hs) ≡ Some p → (place_of x hs ≡ Some p → IsAt x hs p) → (p < suc (length hs)) × ((if b then 0 else suc (position (Holds x) (slots_of hs))) ≡ suc (length hs) - 1 - p)
    go true e rest = let s : length hs ≡ p = same_Some _ _ e in (omega arith, omega arith)
    go false e rest = let r = rest e in let b = r.below in let a = r.at in (omega arith, omega arith)
place_is x (held.Closure i ∷ hs) p e = let r = place_is x hs p e in let b = r.below in let a = r.at in record { below = omega arith; at = omega arith }

-- no place
pub place_none : (x : ℕ) (hs : List Held) → place_of x hs ≡ None → position (Holds x) (slots_of hs) ≡ length hs
place_none x [] e = refl
place_none x (held.Closure i ∷ hs) e = ap suc (place_none x hs e)
place_none x (held.Word y before ∷ hs) e = go (nat_eq x y) e (place_none x hs)
  where
    go : (b : Bool) → (if b then Some (length hs) else place_of x hs) ≡ None → (place_of x hs ≡ None → position (Holds x) (slots_of hs) ≡ length hs) → (if b then 0 else suc (position (Holds x) (slots_of hs))) ≡ suc (length hs)
    go true e rest = absurd (none-some (length hs) (sym e))
    go false e rest = ap suc (rest e)

-- the closure is looked for from the innermost variable on
pub closure_here : (i : ℕ) (hs : List Held) (p : ℕ) (h : Held) (rest : List Held) → drop p hs ≡ h ∷ rest → same_slot (Made i) (slot_of h) ≡ true →
    position (Made i) (slots_of hs) ≡ p + position (Made i) (slots_of (drop p hs)) → position (Made i) (slots_of hs) ≡ p
closure_here i hs p h rest e t inv =
    let a : position (Made i) (slots_of (drop p hs)) ≡ 0 = ap (λ z. position (Made i) (slots_of z)) e ∙ ap (λ b. if b then 0 else suc (position (Made i) (slots_of rest))) t in
    omega arith

pub closure_past : (i : ℕ) (hs : List Held) (p : ℕ) (h : Held) (rest : List Held) → drop p hs ≡ h ∷ rest → same_slot (Made i) (slot_of h) ≡ false →
    position (Made i) (slots_of hs) ≡ p + position (Made i) (slots_of (drop p hs)) → position (Made i) (slots_of hs) ≡ (p + 1) + position (Made i) (slots_of rest)
closure_past i hs p h rest e f inv =
    let a : position (Made i) (slots_of (drop p hs)) ≡ suc (position (Made i) (slots_of rest)) = ap (λ z. position (Made i) (slots_of z)) e ∙ ap (λ b. if b then 0 else suc (position (Made i) (slots_of rest))) f in
    omega arith

-- the innermost variable is forgotten
same_number : {x y : ℕ} → nat_eq x y ≡ true → x ≡ y
same_number {x} {y} e = grind arith

module _ {S : Type 0} where
  pub forgotten : (m n : HashMap ℕ ℕ S) (h : Held) (hs : List Held) → ArePlaced m (h ∷ hs) → ((x : ℕ) → get nat_eq n x ≡ uncovered h x (get nat_eq m x)) → ArePlaced n hs
  forgotten m n (held.Closure i) hs a same = record { at = λ x. same x ∙ a.at x; before = a.before }
  forgotten m n (held.Word y before) hs a same = record {
    at = λ x. same x ∙ cases x (nat_eq x y) (a.at x) (λ e. same_number e);
    before = a.before.1;
  }
    where
      cases : (x : ℕ) (b : Bool) → get nat_eq m x ≡ (if b then Some (length hs) else place_of x hs) → (b ≡ true → x ≡ y) → (if b then before else get nat_eq m x) ≡ place_of x hs
      cases x true e q = a.before.0 ∙ ap (λ z. place_of z hs) (sym (q refl))
      cases x false e q = e

  pub placed_same : (m n : HashMap ℕ ℕ S) (hs : List Held) → ArePlaced m hs → ((x : ℕ) → get nat_eq n x ≡ get nat_eq m x) → ArePlaced n hs
  placed_same m n hs a same = record { at = λ x. same x ∙ a.at x; before = a.before }

pub drop_twice : {A : Type 0} (xs : List A) (n m : ℕ) → drop (n + m) xs ≡ drop m (drop n xs)
drop_twice {A} xs zero m = ap (λ k. drop k xs) (let e : 0 + m ≡ m = omega arith in e)
drop_twice {A} [] (suc n) m = refl_drop (suc n + m) ∙ sym (refl_drop m)
  where
    refl_drop : (k : ℕ) → drop k (let e : List A = [] in e) ≡ []
    refl_drop zero = refl
    refl_drop (suc k) = refl
drop_twice {A} (x ∷ xs) (suc n) m = ap (λ k. drop k (x ∷ xs)) (let e : suc n + m ≡ suc (n + m) = omega arith in e) ∙ drop_twice xs n m
