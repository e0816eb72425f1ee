-- Numbers in decimal, as the grammar of dumps reads them.
use Rattle.std.proofs.Common.{◌≡◌, ℕ, zero, suc, ◌+◌, ◌-◌, ◌*◌, ◌^◌, ◌<◌, ◌≤◌, List, [], ◌∷◌, length, get_or, Some, None, true, false, refl, sym, ap, subst, ◌∙◌, arith, decimal, inl, inr}
use Rattle.std.specs.Prelude.{nat_le, nat_eq, ◌&&◌}
use Rattle.std.specs.Str.Parse.{AllDigits, digits_value_after}
use Rattle.std.specs.Char.{digit_value}
use Rattle.std.proofs.lemmas.Bool.{cases_Bool, ne_eqb, le-leb, leb-true}
use Rattle.std.proofs.lemmas.Str.{digit_value_digit}
use Rattle.std.proofs.lemmas.Str.Parse.{numerals_by_value, tells_digits, digit_from_value}
use Rattle.std.proofs.lemmas.Fmt.{decimal_is_IsNumeral, decimal-digits_value, first_decimal, decimal_digit, decimal_nonempty}
use Rattle.dump_grammar.specs.Numbers.{is_digit, digits_from, number_of}

digit-range : (c : ℕ) → 48 ≤ c → c ≤ 57 → is_digit c ≡ true
digit-range c a b = rw (le-leb 48 c a, le-leb c 57 b) refl

true-range : (c : ℕ) → is_digit c ≡ true → (48 ≤ c) × (c ≤ 57)
true-range c e =
    elim (cases_Bool (nat_le 48 c)) [
      | inr f ↦ absurd (let g : is_digit c ≡ false = rw f refl in cc)
      | inl f ↦ (leb-true 48 c f, leb-true c 57 (let g : (nat_le 48 c && nat_le c 57) ≡ nat_le c 57 = rw f refl in sym g ∙ e))
    ]

-- digits are read by their value
digits-read : (m : ℕ) (ds : List ℕ) → AllDigits 10 ds → digits_from m ds ≡ Some (digits_value_after 10 m ds)
digits-read m [] h = refl
digits-read m (c ∷ cs) h =
    let r = digit_from_value c h.0 in
    let e : m * 10 + (c - 48) ≡ m * 10 + digit_value c = omega (arith, digit_value_digit c r) in
    rw (digit-range c r.0 r.1) (ap (λ k. digits_from k cs) e ∙ digits-read (m * 10 + digit_value c) cs h.1)

digits-of : (m : ℕ) (ds : List ℕ) (v : ℕ) → digits_from m ds ≡ Some v → AllDigits 10 ds × (digits_value_after 10 m ds ≡ v)
digits-of m [] v h = (tt, cc)
digits-of m (c ∷ cs) v h =
    elim (cases_Bool (is_digit c)) [
      | inr f ↦ absurd (let g : digits_from m (c ∷ cs) ≡ None = rw f refl in cc)
      | inl f ↦
          let r = true-range c f in
          let d = digit_value_digit c r in
          let e : m * 10 + digit_value c ≡ m * 10 + (c - 48) = omega (arith, d) in
          let g : digits_from m (c ∷ cs) ≡ digits_from (m * 10 + (c - 48)) cs = rw f refl in
          let k = digits-of (m * 10 + (c - 48)) cs v (sym g ∙ h) in
          ((omega (arith, d), k.0), ap (λ j. digits_value_after 10 j cs) e ∙ k.1)
    ]

abbrev Leads : List ℕ → Type 0
Leads [] = ⊥
Leads (b ∷ []) = Unit {0}
Leads (b ∷ c ∷ bs) = nat_eq b 48 ≡ false

number-read : (ds : List ℕ) (n : ℕ) → Leads ds → digits_from 0 ds ≡ Some n → number_of ds ≡ Some n
unfolding number_of
number-read [] n h e = elim h [ ]
number-read (b ∷ []) n h e = e
number-read (b ∷ c ∷ bs) n h e = rw h e

number-parts : (ds : List ℕ) (n : ℕ) → number_of ds ≡ Some n → Leads ds × (digits_from 0 ds ≡ Some n)
unfolding number_of
number-parts [] n e = absurd cc
number-parts (b ∷ []) n e = (tt, e)
number-parts (b ∷ c ∷ bs) n e =
    elim (cases_Bool (nat_eq b 48)) [
      | inl f ↦ absurd (let g : number_of (b ∷ c ∷ bs) ≡ None = rw f refl in cc)
      | inr f ↦ (f, let g : number_of (b ∷ c ∷ bs) ≡ digits_from 0 (b ∷ c ∷ bs) = rw f refl in sym g ∙ e)
    ]

leads-from : (ds : List ℕ) → 0 < length ds → 48 < get_or ds 0 0 → Leads ds
leads-from [] h k = omega arith
leads-from (b ∷ []) h k = tt
leads-from (b ∷ c ∷ bs) h k = ne_eqb b 48 (λ e. omega arith)

leads-one : (ds : List ℕ) (b : ℕ) → ds ≡ b ∷ [] → Leads ds
leads-one ds b e = subst Leads (sym e) tt

leads-decimal : (n : ℕ) → n < 2 ^ 64 → Leads (decimal n)
leads-decimal zero h = leads-one (decimal 0) 48 (decimal_digit 0 (omega arith))
leads-decimal (suc n) h = leads-from (decimal (suc n)) (decimal_nonempty (suc n) h) (first_decimal (suc n) (omega arith) h)

-- what is written of a number is read as it
pub decimal-read : (n : ℕ) → n < 2 ^ 64 → number_of (decimal n) ≡ Some n
decimal-read n h =
    let d = decimal_is_IsNumeral n h in
    number-read (decimal n) n (leads-decimal n h) (digits-read 0 (decimal n) d.0.1 ∙ ap Some d.1)

leads-lone : (ds : List ℕ) → Leads ds → get_or ds 0 0 ≡ 48 → length ds ≡ 1
leads-lone [] h e = elim h [ ]
leads-lone (b ∷ []) h e = refl
leads-lone (b ∷ c ∷ bs) h e = absurd (let f : nat_eq b 48 ≡ true = rw e refl in cc)

leads-some : (ds : List ℕ) → Leads ds → 0 < length ds
leads-some [] h = elim h [ ]
leads-some (b ∷ bs) h = omega arith

-- an atom that is a number is what is written of it
pub decimal-is : (a : List ℕ) (n : ℕ) → n < 2 ^ 64 → number_of a ≡ Some n → decimal n ≡ a
decimal-is a n h e =
    let parts = number-parts a n e in
    let digits = digits-of 0 a n parts.1 in
    let own = numerals_by_value (AllDigits 10) tells_digits in
    ap decimal (sym digits.1) ∙ decimal-digits_value own a digits.0 (leads-some a parts.0) (leads-lone a parts.0) (subst (λ m. m < 2 ^ 64) (sym digits.1) h)
