-- Bytes that are counted as a whole, one more at a time.
use Rattle.std.proofs.Common.{◌≡◌, ℕ, ◌+◌, ◌-◌, ◌<◌, ◌≤◌, List, length, get_or, true, false, refl, sym, ap, ◌∙◌, arith, inl, inr}
use Rattle.std.proofs.lemmas.Bool.{cases_lt, eqb-true, or_cases}
use Rattle.std.specs.Prelude.{◌||◌, nat_eq}
use Rattle.sexp_reader.specs.Lex.{is_blank, is_atom_byte}
use Rattle.sexp_reader.proofs.Steps.{blank_is_no_atom}
use Rattle.dump_reader.specs.CountedUpTo.{ends_from, CountedUpTo, CountsWhole, is_plain}
use Rattle.dump_reader.proofs.Counting.{settles, blank_passes, open_passes, close_passes}

-- the same at other names of the numbers, and a larger bound
pub counted_is : (bs : List ℕ) (ends n m at to size more : ℕ) → n ≡ m → at ≡ to → size ≤ more → CountedUpTo bs ends n at size → CountedUpTo bs ends m to more
counted_is bs ends n m at to size more e f le c =
    record { start = c.start; before = omega (arith, c.before); near = omega (arith, c.near); atom = λ k a b. c.atom k a (omega arith); same = c.same ∙ ap (λ (x : ℕ). ends_from bs x c.start) e }

-- at an offset where no atom stands before
pub counted_anew : (bs : List ℕ) (ends n at size : ℕ) → ends ≡ ends_from bs n at → CountedUpTo bs ends n at size
counted_anew bs ends n at size e = record { start = at; before = omega arith; near = omega arith; atom = λ k a b. absurd (omega arith); same = e }

-- one more byte of an atom
counted_atom : (bs : List ℕ) (ends n at size : ℕ) → is_atom_byte (get_or bs at 0) ≡ true → CountedUpTo bs ends n at size → CountedUpTo bs ends n (at + 1) (size + 1)
counted_atom bs ends n at size e c =
    let atom : (k : ℕ) → c.start ≤ k → k < at + 1 → is_atom_byte (get_or bs k 0) ≡ true =
    λ k a b. elim (cases_lt k at) [
      | inl h ↦ c.atom k a h
      | inr h ↦ let same : k ≡ at = omega arith in rw same e
    ] in
    record { start = c.start; before = omega (arith, c.before); near = omega (arith, c.near); atom = atom; same = c.same }

-- at a byte of no atom
settled : (bs : List ℕ) (ends n at size : ℕ) → at < length bs → 0 < n → size ≤ 255 → is_atom_byte (get_or bs at 0) ≡ false → CountedUpTo bs ends n at size → ends ≡ ends_from bs n at
settled bs ends n at size within some few e c = c.same ∙ settles bs n c.start at some c.before (omega arith) (omega (arith, c.near)) c.atom (λ h. e)

-- behind a byte of no atom
pub settled_behind : (bs : List ℕ) (ends n at size : ℕ) → is_atom_byte (get_or bs (at - 1) 0) ≡ false → CountedUpTo bs ends n at size → ends ≡ ends_from bs n at
settled_behind bs ends n at size e c =
    elim (cases_lt c.start at) [
      | inl h ↦ let t = c.atom (at - 1) (omega arith) (omega arith) in absurd (let f : true ≡ false = sym t ∙ e in cc)
      | inr h ↦ let same : c.start ≡ at = omega (arith, c.before) in c.same ∙ ap (ends_from bs n) same
    ]

pub passes_none : (bs : List ℕ) (at : ℕ) → CountsWhole bs at 0 0 0
passes_none bs at = λ ends n after size less sum top few c. (counted_is bs ends n after at (at + 0) size (size + 0) (omega arith) (omega arith) (omega arith) c, λ h. absurd (omega arith))

-- behind a token that is no atom, or a blank
anew : (bs : List ℕ) (ends m after at width size opens closes : ℕ) → m ≡ after → ends ≡ ends_from bs m (at + width + 1)
    → CountedUpTo bs ends after (at + (width + 1)) (size + (width + 1)) × (0 < opens + closes → CountedUpTo bs ends after (at + (width + 1)) (width + 1))
anew bs ends m after at width size opens closes e same =
    let c = counted_anew bs ends m (at + width + 1) 0 same in
    (counted_is bs ends m after (at + width + 1) (at + (width + 1)) 0 (size + (width + 1)) e (omega arith) (omega arith) c, λ h. counted_is bs ends m after (at + width + 1) (at + (width + 1)) 0 (width + 1) e (omega arith) (omega arith) c)

-- a plain byte that is no bracket
pub plain_text : (b : ℕ) → is_plain b ≡ true → (b ≡ 40 → ⊥) → (b ≡ 41 → ⊥) → (is_atom_byte b || is_blank b) ≡ true
plain_text b e no_open no_close =
    elim (or_cases (is_atom_byte b || nat_eq b 32 || nat_eq b 10 || nat_eq b 40) (nat_eq b 41) e) [
      | inl e ↦ elim (or_cases (is_atom_byte b || nat_eq b 32 || nat_eq b 10) (nat_eq b 40) e) [
        | inl e ↦ elim (or_cases (is_atom_byte b || nat_eq b 32) (nat_eq b 10) e) [
          | inl e ↦ elim (or_cases (is_atom_byte b) (nat_eq b 32) e) [
            | inl atom ↦ rw atom refl
            | inr space ↦ rw (eqb-true b 32 space) refl
          ]
          | inr line ↦ rw (eqb-true b 10 line) refl
        ]
        | inr opens ↦ absurd (no_open (eqb-true b 40 opens))
      ]
      | inr closes ↦ absurd (no_close (eqb-true b 41 closes))
    ]

module _ (bs : List ℕ) (at width opens closes : ℕ) (within : at + width < length bs) (before : CountsWhole bs at width opens closes) where
  abbrev here : ℕ
  here = get_or bs (at + width) 0

  pub passes_open : here ≡ 40 → CountsWhole bs at (width + 1) (opens + 1) closes
  passes_open h = λ ends n after size less sum top few c.
      let m = after - 1 in
      let p = before ends n m size less (omega arith) (omega arith) (omega arith) c in
      let no_atom : is_atom_byte here ≡ false = rw h refl in
      let e = settled bs ends m (at + width) (size + width) within (omega arith) (omega arith) no_atom p.0 ∙ open_passes bs m (at + width) within h (omega arith) in
      anew bs ends (m + 1) after at width size (opens + 1) closes (omega arith) e

  pub passes_close : here ≡ 41 → CountsWhole bs at (width + 1) opens (closes + 1)
  passes_close h = λ ends n after size less sum top few c.
      let m = after + 1 in
      let p = before ends n m size (omega arith) (omega arith) top (omega arith) c in
      let no_atom : is_atom_byte here ≡ false = rw h refl in
      let e = settled bs ends m (at + width) (size + width) within (omega arith) (omega arith) no_atom p.0 ∙ close_passes bs m (at + width) within h (omega arith) in
      anew bs ends (m - 1) after at width size opens (closes + 1) (omega arith) e

  passes_atom : is_atom_byte here ≡ true → CountsWhole bs at (width + 1) opens closes
  passes_atom e = λ ends n after size less sum top few c.
      let p = before ends n after size less sum top (omega arith) c in
      let one = counted_atom bs ends after (at + width) (size + width) e p.0 in (
        counted_is bs ends after after (at + width + 1) (at + (width + 1)) (size + width + 1) (size + (width + 1)) refl (omega arith) (omega arith) one,
        λ h. counted_is bs ends after after (at + width + 1) (at + (width + 1)) (width + 1) (width + 1) refl (omega arith) (omega arith) (counted_atom bs ends after (at + width) width e (p.1 h)),
      )

  passes_blank : is_blank here ≡ true → CountsWhole bs at (width + 1) opens closes
  passes_blank b = λ ends n after size less sum top few c.
      let p = before ends n after size less sum top (omega arith) c in
      let e = settled bs ends after (at + width) (size + width) within (omega arith) (omega arith) (blank_is_no_atom here b) p.0 ∙ blank_passes bs after (at + width) within b in
      anew bs ends after after at width size opens closes refl e

  pub passes_plain : (is_atom_byte here || is_blank here) ≡ true → CountsWhole bs at (width + 1) opens closes
  passes_plain e = elim (or_cases _ _ e) [
    | inl h ↦ passes_atom h
    | inr h ↦ passes_blank h
  ]

-- the same at other names of the numbers
pub passes_is : (bs : List ℕ) (at width opens closes o k : ℕ) → o ≡ opens → k ≡ closes → CountsWhole bs at width opens closes → CountsWhole bs at width o k
passes_is bs at width opens closes o k e f p = rw (e, f) p

-- a whole block
pub block_counted : (bs : List ℕ) (ends n at size opens closes : ℕ) → CountsWhole bs at 32 opens closes → closes < n → n + opens ≤ 1000 → size + 32 ≤ 256 → CountedUpTo bs ends n at size
    → CountedUpTo bs ends (n + opens - closes) (at + 32) (size + 32) × (0 < opens + closes → CountedUpTo bs ends (n + opens - closes) (at + 32) 32)
block_counted bs ends n at size opens closes p less top few c = p ends n (n + opens - closes) size less (omega arith) top few c
