-- The front of a text, byte by byte: what each kind of token, a blank and a comment do to where it ends.
use Rattle.std.proofs.Common.{◌≡◌, ℕ, zero, suc, ◌+◌, ◌-◌, ◌<◌, ◌≤◌, List, length, get_or, drop, true, false, refl, ap, ◌∙◌, arith, inl, inr}
use Rattle.std.proofs.lemmas.Bool.{cases_lt, ne_eqb}
use Rattle.std.specs.Prelude.{nat_eq}
use Rattle.sexp_reader.specs.Lex.{is_blank, is_atom_byte, atom_len, lex, left}
use Rattle.sexp_reader.specs.declared.TokenKind.TheVariants as kinds
use Rattle.sexp_reader.specs.declared.TokenFault.TheVariants as faults
use Rattle.sexp_reader.proofs.Steps.{front, blank_is_no_atom, lex-end, atom_len-more, atom_len-none, atom_len-end, atom-long, atom-short, atom-gave, open-deep, open-answer, open-gave, close-answer, close-gave, stray-answer}
use Rattle.dump_reader.specs.Front.{front_end}
use Rattle.dump_reader.specs.CountedUpTo.{ends_from}
use Rattle.dump_reader.proofs.Fronts.{at_end, at_fault, ends, continues}

-- ---- a byte of no token: the tokens from it on, and those from the byte behind it on

module _ (bs : List ℕ) (n : ℕ) (within : n < length bs) where
  blank_left : (get_or bs n 0 ≡ 59 → ⊥) → is_blank (get_or bs n 0) ≡ true → left n bs ≡ left (n + 1) bs
  unfolding lex
  blank_left no_comment blank = rw (front bs n within, blank_is_no_atom _ blank, ne_eqb _ _ no_comment, blank) refl

  comment_left : get_or bs n 0 ≡ 59 → left n bs ≡ lex (n + 1) true (drop (n + 1) bs)
  unfolding lex
  comment_left begins = rw (front bs n within, begins) refl

  pub in_comment : (get_or bs n 0 ≡ 10 → ⊥) → lex n true (drop n bs) ≡ lex (n + 1) true (drop (n + 1) bs)
  unfolding lex
  in_comment no_end = rw (front bs n within, ne_eqb _ _ no_end) refl

  pub comment_behind : get_or bs n 0 ≡ 10 → lex n true (drop n bs) ≡ left (n + 1) bs
  unfolding lex
  comment_behind ends = rw (front bs n within, ends) refl

-- no byte is left
pub end_ends : (bs : List ℕ) (n at : ℕ) → length bs ≤ at → ends_from bs n at ≡ length bs
end_ends bs n at h = at_end (length bs) n (left at bs) (lex-end at false bs h)

module _ (bs : List ℕ) (n at : ℕ) (within : at < length bs) where
  abbrev here : ℕ
  here = get_or bs at 0

  abbrev size : ℕ
  size = atom_len (drop at bs)

  pub atom_too_long : is_atom_byte here ≡ true → at + size ≤ length bs → 255 < size → ends_from bs n at ≡ length bs
  atom_too_long e le more = at_fault (length bs) n (left at bs) (faults.NameBytes at) (atom-long bs n at within e le more)

  pub atom_ends : is_atom_byte here ≡ true → at + size ≤ length bs → size ≤ 255 → n ≡ 0 → ends_from bs n at ≡ at + size
  atom_ends e le few none =
      ends (length bs) n bs (left at bs) (left (at + size) bs) (record { kind = kinds.Atom; start = at; «end» = at + size }) (atom-gave bs n at within e) n (atom-short bs n at within e le few) refl none

  pub atom_passes : is_atom_byte here ≡ true → at + size ≤ length bs → size ≤ 255 → (n ≡ 0 → ⊥) → ends_from bs n at ≡ ends_from bs n (at + size)
  atom_passes e le few some =
      continues (length bs) n bs (left at bs) (left (at + size) bs) (record { kind = kinds.Atom; start = at; «end» = at + size }) (atom-gave bs n at within e) n (atom-short bs n at within e le few) refl some

  pub blank_passes : is_blank here ≡ true → ends_from bs n at ≡ ends_from bs n (at + 1)
  blank_passes e =
      let no_comment : here ≡ 59 → ⊥ = λ h. let f : false ≡ true = rw h at e in cc in
      ap (front_end (length bs) n) (blank_left bs at within no_comment e)

  pub comment_passes : (to : ℕ) → here ≡ 59 → lex (at + 1) true (drop (at + 1) bs) ≡ left to bs → ends_from bs n at ≡ ends_from bs n to
  comment_passes to h e = ap (front_end (length bs) n) (comment_left bs at within h ∙ e)

  pub open_too_deep : here ≡ 40 → 1000 ≤ n → ends_from bs n at ≡ length bs
  open_too_deep h deep = at_fault (length bs) n (left at bs) (faults.Nesting at) (open-deep bs n at within h deep)

  pub open_passes : here ≡ 40 → n < 1000 → ends_from bs n at ≡ ends_from bs (n + 1) (at + 1)
  open_passes h less =
      continues (length bs) n bs (left at bs) (left (at + 1) bs) (record { kind = kinds.Open; start = at; «end» = at + 1 }) (open-gave bs n at within h) (n + 1) (open-answer bs n at within h less) refl (λ e. omega arith)

  pub close_ends : here ≡ 41 → n ≤ 1 → ends_from bs n at ≡ at + 1
  close_ends h last =
      ends (length bs) n bs (left at bs) (left (at + 1) bs) (record { kind = kinds.Close; start = at; «end» = at + 1 }) (close-gave bs n at within h) (n - 1) (close-answer bs n at within h) refl (omega arith)

  pub close_passes : here ≡ 41 → 1 < n → ends_from bs n at ≡ ends_from bs (n - 1) (at + 1)
  close_passes h some =
      continues (length bs) n bs (left at bs) (left (at + 1) bs) (record { kind = kinds.Close; start = at; «end» = at + 1 }) (close-gave bs n at within h) (n - 1) (close-answer bs n at within h) refl (λ e. omega arith)

  pub stray_ends : is_atom_byte here ≡ false → is_blank here ≡ false → nat_eq here 59 ≡ false → (here ≡ 40 → ⊥) → (here ≡ 41 → ⊥) → ends_from bs n at ≡ length bs
  stray_ends e1 e3 e2 h1 h2 = at_fault (length bs) n (left at bs) (faults.Stray at) (stray-answer bs n at within e1 e2 e3 h1 h2)

-- how long an atom is of which all bytes are known
atom_len_is : (bs : List ℕ) (k start at : ℕ) → at ≡ start + k → at ≤ length bs → ((i : ℕ) → start ≤ i → i < at → is_atom_byte (get_or bs i 0) ≡ true) → (at < length bs → is_atom_byte (get_or bs at 0) ≡ false) → atom_len (drop start bs) ≡ k
atom_len_is bs zero start at e le atom stop =
    let same : at ≡ start = omega arith in
    let stop = rw same at stop in
    elim (cases_lt start (length bs)) [
      | inl h ↦ atom_len-none bs start h (stop h)
      | inr h ↦ atom_len-end bs start h
    ]
atom_len_is bs (suc k) start at e le atom stop =
    let more = atom_len_is bs k (start + 1) at (omega arith) le (λ i a b. atom i (omega arith) b) stop in
    omega (arith, more, atom_len-more bs start (omega arith) (atom start (omega arith) (omega arith)))

-- the tokens from the start of an atom on, and those behind it, where it has at most 255 bytes
pub settles : (bs : List ℕ) (n start at : ℕ) → 0 < n → start ≤ at → at ≤ length bs → at ≤ start + 255 → ((i : ℕ) → start ≤ i → i < at → is_atom_byte (get_or bs i 0) ≡ true) → (at < length bs → is_atom_byte (get_or bs at 0) ≡ false) → ends_from bs n start ≡ ends_from bs n at
settles bs n start at some before le near atom stop =
    elim (cases_lt start at) [
      | inl h ↦
          let len = atom_len_is bs (at - start) start at (omega arith) le atom stop in
          let behind : start + atom_len (drop start bs) ≡ at = omega (arith, len) in
          atom_passes bs n start (omega arith) (atom start (omega arith) h) (omega (arith, behind)) (omega (arith, behind)) (λ e. omega arith) ∙ ap (ends_from bs n) behind
      | inr h ↦ let same : start ≡ at = omega arith in ap (ends_from bs n) same
    ]
