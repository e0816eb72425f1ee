-- Lists of alternatives: what holds of all holds of those of a kind and of those of a half, and in which half the one with some number is.
use Rattle.std.proofs.Common.{◌≡◌, ℕ, zero, suc, ◌+◌, ◌<◌, ◌≤◌, List, [], ◌∷◌, length, take, drop, Bool, true, false, refl, sym, subst, arith}
use Rattle.wasm_core.specs.ModuleCondition.{All}
use Rattle.known_calls.specs.KnownTests.{Kind, Bare, Fielded, Alternative, is_of, keep, kept, is_some, first_number}

module _ (Q : Alternative → Type 0) where
  all_keep : (b : Bool) (a : Alternative) (as' : List Alternative) → Q a → All Q as' → All Q (keep b a as')
  all_keep true a as' h hs = (h, hs)
  all_keep false a as' h hs = hs

  pub all_kept : (k : Kind) (as' : List Alternative) → All Q as' → All Q (kept k as')
  all_kept k [] h = tt
  all_kept k (a ∷ as') h = all_keep (is_of k a.binders) a (kept k as') h.0 (all_kept k as' h.1)

  pub all_take : (n : ℕ) (as' : List Alternative) → All Q as' → All Q (take n as')
  all_take zero as' h = tt
  all_take (suc n) [] h = tt
  all_take (suc n) (a ∷ as') h = (h.0, all_take n as' h.1)

  pub all_drop : (n : ℕ) (as' : List Alternative) → All Q as' → All Q (drop n as')
  all_drop zero as' h = h
  all_drop (suc n) [] h = tt
  all_drop (suc n) (a ∷ as') h = all_drop n as' h.1

-- what was kept is of the kind
abbrev pub OfKind : Kind → Alternative → Type 0
OfKind k a = is_of k a.binders ≡ true

pub kept_of_kind : (k : Kind) (as' : List Alternative) → All (OfKind k) (kept k as')
kept_of_kind k [] = tt
kept_of_kind k (a ∷ as') = one (is_of k a.binders) refl (kept_of_kind k as')
  where
    one : (b : Bool) → is_of k a.binders ≡ b → All (OfKind k) (kept k as') → All (OfKind k) (keep b a (kept k as'))
    one true e h = (e, h)
    one false e h = h

-- each is of one of the two kinds
pub kept_sizes : (as' : List Alternative) → length (kept Bare as') + length (kept Fielded as') ≡ length as'
kept_sizes [] = refl
kept_sizes (a ∷ as') = one a.binders (kept_sizes as')
  where
    one : (n : ℕ) → length (kept Bare as') + length (kept Fielded as') ≡ length as' → length (keep (is_of Bare n) a (kept Bare as')) + length (keep (is_of Fielded n) a (kept Fielded as')) ≡ suc (length as')
    one zero h = omega (arith, h)
    one (suc n) h = omega (arith, h)

-- The numbers grow, from this one on.
abbrev pub Ordered : ℕ → List Alternative → Type 0
Ordered low [] = Unit {0}
Ordered low (a ∷ as') = (low ≤ a.number) × Ordered (suc a.number) as'

ordered_from : (high low : ℕ) (as' : List Alternative) → low ≤ high → Ordered high as' → Ordered low as'
ordered_from high low [] le h = tt
ordered_from high low (a ∷ as') le h = (omega (arith, le, h.0), h.1)

pub ordered_kept : (k : Kind) (low : ℕ) (as' : List Alternative) → Ordered low as' → Ordered low (kept k as')
ordered_kept k low [] h = tt
ordered_kept k low (a ∷ as') h = one (is_of k a.binders) (ordered_kept k (suc a.number) as' h.1)
  where
    one : (b : Bool) → Ordered (suc a.number) (kept k as') → Ordered low (keep b a (kept k as'))
    one true r = (h.0, r)
    one false r = ordered_from (suc a.number) low (kept k as') (omega (arith, h.0)) r

pub ordered_take : (n low : ℕ) (as' : List Alternative) → Ordered low as' → Ordered low (take n as')
ordered_take zero low as' h = tt
ordered_take (suc n) low [] h = tt
ordered_take (suc n) low (a ∷ as') h = (h.0, ordered_take n (suc a.number) as' h.1)

pub ordered_drop : (n low : ℕ) (as' : List Alternative) → Ordered low as' → Ordered low (drop n as')
ordered_drop zero low as' h = h
ordered_drop (suc n) low [] h = tt
ordered_drop (suc n) low (a ∷ as') h = ordered_from (suc a.number) low (drop n as') (omega (arith, h.0)) (ordered_drop n (suc a.number) as' h.1)

-- One of them.
pub data Among (a : Alternative) : List Alternative → Type 0 where
  among_first : {as' : List Alternative} → Among a (a ∷ as')
  among_later : {x : Alternative} {as' : List Alternative} → Among a as' → Among a (x ∷ as')

pub among_some : {a : Alternative} {as' : List Alternative} → Among a as' → is_some as' ≡ true
among_some among_first = refl
among_some (among_later at) = refl

pub among_from : {a : Alternative} (low : ℕ) {as' : List Alternative} → Ordered low as' → Among a as' → low ≤ a.number
among_from low h among_first = h.0
among_from low h (among_later {x = x} at) = omega (arith, h.0, among_from (suc x.number) h.1 at)

pub among_kept : (k : Kind) {a : Alternative} {as' : List Alternative} → OfKind k a → Among a as' → Among a (kept k as')
among_kept k {a} e (among_first {as' = as'}) = subst (λ (b : Bool). Among a (keep b a (kept k as'))) (sym e) among_first
among_kept k {a} e (among_later {x = x} {as' = as'} at) = one (is_of k x.binders) (among_kept k e at)
  where
    one : (b : Bool) → Among a (kept k as') → Among a (keep b x (kept k as'))
    one true r = among_later r
    one false r = r

-- in which half it is, by its number
pub data Side (a : Alternative) (n : ℕ) (as' : List Alternative) : Type 0 where
  before : a.number < first_number (drop n as') → Among a (take n as') → Side a n as'
  behind : first_number (drop n as') ≤ a.number → Among a (drop n as') → Side a n as'

first_from : (n low : ℕ) (as' : List Alternative) → n < length as' → Ordered low as' → low ≤ first_number (drop n as')
first_from n low [] lt h = absurd (omega arith)
first_from zero low (x ∷ xs) lt h = h.0
first_from (suc n) low (x ∷ xs) lt h = omega (arith, h.0, first_from n (suc x.number) xs (omega arith) h.1)

pub side_of : {a : Alternative} (n low : ℕ) {as' : List Alternative} → n < length as' → Ordered low as' → Among a as' → Side a n as'
side_of zero low lt h among_first = behind (omega arith) among_first
side_of zero low lt h (among_later {x = x} at) = behind (omega (arith, among_from (suc x.number) h.1 at)) (among_later at)
side_of {a} (suc n) low lt h (among_first {as' = xs}) = before (omega (arith, first_from n (suc a.number) xs (omega arith) h.1)) among_first
side_of {a} (suc n) low lt h (among_later {x = x} {as' = xs} at) = further (side_of n (suc x.number) (omega arith) h.1 at)
  where
    further : Side a n xs → Side a (suc n) (x ∷ xs)
    further (before y m) = before y (among_later m)
    further (behind y m) = behind y m
