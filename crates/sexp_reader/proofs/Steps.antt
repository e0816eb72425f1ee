-- One byte more.
use Rattle.std.proofs.Common.{◌≡◌, ℕ, suc, ◌+◌, ◌-◌, ◌<◌, ◌≤◌, List, [], ◌∷◌, length, get_or, take, drop, Bool, true, false, cond, refl, ap, ◌∙◌, arith, drop-cons, add-one, inl, inr}
use Rattle.std.proofs.Math.ListN.{drop_of_length-le}
use Rattle.std.proofs.lemmas.Bool.{ne_eqb, eqb-true, or_cases, le-leb, lt-leb, lt-ltb, le-ltb}
use Rattle.std.specs.Prelude.{nat_eq, not, eqb}
use Rattle.sexp_reader.specs.Text.{Open, Close, Atom}
use Rattle.sexp_reader.specs.Lex.{Spanned, is_blank, is_atom_byte, atom_len, lex, longer, single, left, answer, rest, token, nesting_after}
use Rattle.std.proofs.lemmas.List.{drop-drop, length-take, length-drop}
use Rattle.std.specs.Prelude.{Err, slice_range}
use Rattle.sexp_reader.specs.declared.TokenKind.TheVariants as kinds
use Rattle.sexp_reader.specs.declared.TokenFault.TheVariants as faults

-- the bytes from here on, by the first of them
pub front : (bs : List ℕ) (n : ℕ) → n < length bs → drop n bs ≡ get_or bs n 0 ∷ drop (n + 1) bs
front bs n h = rw add-one (drop-cons bs n 0 h)

pub lex-end : (n : ℕ) (c : Bool) (bs : List ℕ) → length bs ≤ n → lex n c (drop n bs) ≡ []
unfolding lex
lex-end n c bs h = rw (drop_of_length-le bs h) refl

pub blank_is_no_atom : (b : ℕ) → is_blank b ≡ true → is_atom_byte b ≡ false
blank_is_no_atom b e =
    elim (or_cases _ _ e) [
      | inl e ↦ elim (or_cases _ _ e) [
        | inl e ↦ elim (or_cases _ _ e) [
          | inl e ↦ rw (eqb-true b 32 e) refl
          | inr e ↦ rw (eqb-true b 9 e) refl
        ]
        | inr e ↦ rw (eqb-true b 10 e) refl
      ]
      | inr e ↦ rw (eqb-true b 13 e) refl
    ]

pub lex-in_comment : (bs : List ℕ) (n : ℕ) (c c' : Bool) → n < length bs → c ≡ true → c' ≡ not (eqb (get_or bs n 0) 10) → lex n c (drop n bs) ≡ lex (n + 1) c' (drop (n + 1) bs)
unfolding lex
lex-in_comment bs n c c' h e e' = rw (e, e', front bs n h) (elim (eqb (get_or bs n 0) 10) as (λ b. cond b (lex (n + 1) false (drop (n + 1) bs)) (lex (n + 1) true (drop (n + 1) bs)) ≡ lex (n + 1) (not b) (drop (n + 1) bs)) [ true ↦ refl | false ↦ refl ])

pub lex-comment : (bs : List ℕ) (n : ℕ) (c c' : Bool) → n < length bs → c ≡ false → get_or bs n 0 ≡ 59 → c' ≡ true → lex n c (drop n bs) ≡ lex (n + 1) c' (drop (n + 1) bs)
unfolding lex
lex-comment bs n c c' h e b e' = rw (e, e', front bs n h, b) refl

pub lex-blank : (bs : List ℕ) (n : ℕ) (c c' : Bool) → n < length bs → c ≡ false → (get_or bs n 0 ≡ 59 → ⊥) → is_blank (get_or bs n 0) ≡ true → c' ≡ c → lex n c (drop n bs) ≡ lex (n + 1) c' (drop (n + 1) bs)
unfolding lex
lex-blank bs n c c' h e b t e' = rw (e', e, front bs n h, blank_is_no_atom _ t, ne_eqb _ _ b, t) refl

-- outside of a comment: one begins, and a blank is passed over
pub comment_begins : (bs : List ℕ) (n : ℕ) → n < length bs → get_or bs n 0 ≡ 59 → lex n false (drop n bs) ≡ lex (n + 1) true (drop (n + 1) bs)
comment_begins bs n h b = lex-comment bs n false true h refl b refl

pub blank_is_passed : (bs : List ℕ) (n : ℕ) → n < length bs → (get_or bs n 0 ≡ 59 → ⊥) → is_blank (get_or bs n 0) ≡ true → lex n false (drop n bs) ≡ lex (n + 1) false (drop (n + 1) bs)
blank_is_passed bs n h b t = lex-blank bs n false false h refl b t refl

-- within a comment: it goes on, and ends
pub comment_goes_on : (bs : List ℕ) (n : ℕ) → n < length bs → (get_or bs n 0 ≡ 10 → ⊥) → lex n true (drop n bs) ≡ lex (n + 1) true (drop (n + 1) bs)
unfolding lex
comment_goes_on bs n h b = rw (front bs n h, ne_eqb _ _ b) refl

pub comment_ends : (bs : List ℕ) (n : ℕ) → n < length bs → get_or bs n 0 ≡ 10 → lex n true (drop n bs) ≡ lex (n + 1) false (drop (n + 1) bs)
unfolding lex
comment_ends bs n h b = rw (front bs n h, b) refl

pub atom_len-more : (bs : List ℕ) (n : ℕ) → n < length bs → is_atom_byte (get_or bs n 0) ≡ true → atom_len (drop n bs) ≡ suc (atom_len (drop (n + 1) bs))
unfolding atom_len
atom_len-more bs n h e = rw (front bs n h, e) refl

pub atom_len-none : (bs : List ℕ) (n : ℕ) → n < length bs → is_atom_byte (get_or bs n 0) ≡ false → atom_len (drop n bs) ≡ 0
unfolding atom_len
atom_len-none bs n h e = rw (front bs n h, e) refl

pub atom_len-end : (bs : List ℕ) (n : ℕ) → length bs ≤ n → atom_len (drop n bs) ≡ 0
unfolding atom_len
atom_len-end bs n h = rw (drop_of_length-le bs h) refl

-- an atom, whole
pub lex-atom_front : (b : ℕ) (bs : List ℕ) (n : ℕ) → is_atom_byte b ≡ true → lex n false (b ∷ bs) ≡ record { start = n; text = Atom (b ∷ take (atom_len bs) bs) } ∷ lex (n + suc (atom_len bs)) false (drop (atom_len bs) bs)
unfolding lex atom_len
lex-atom_front b [] n e = rw e refl
lex-atom_front b (c ∷ bs) n e =
    let goal : (t : Bool) → is_atom_byte c ≡ t → lex n false (b ∷ c ∷ bs) ≡ record { start = n; text = Atom (b ∷ take (cond t (suc (atom_len bs)) 0) (c ∷ bs)) } ∷ lex (n + suc (cond t (suc (atom_len bs)) 0)) false (drop (cond t (suc (atom_len bs)) 0) (c ∷ bs)) =
    λ t. elim t as (λ t. is_atom_byte c ≡ t → lex n false (b ∷ c ∷ bs) ≡ record { start = n; text = Atom (b ∷ take (cond t (suc (atom_len bs)) 0) (c ∷ bs)) } ∷ lex (n + suc (cond t (suc (atom_len bs)) 0)) false (drop (cond t (suc (atom_len bs)) 0) (c ∷ bs))) [
      | true ↦ λ h.
          let ih = lex-atom_front c bs (n + 1) h in
          let num : n + 1 + suc (atom_len bs) ≡ n + suc (suc (atom_len bs)) = omega arith in
          rw (e, h, ← num) (ap (longer n b) (rw h at ih))
      | false ↦ λ h. rw (e, h) refl
    ] in
    goal (is_atom_byte c) refl

-- the atom that begins at n
pub lex-atom : (bs : List ℕ) (n : ℕ) → n < length bs → is_atom_byte (get_or bs n 0) ≡ true → left n bs ≡ record { start = n; text = Atom (take (atom_len (drop n bs)) (drop n bs)) } ∷ left (n + atom_len (drop n bs)) bs
unfolding atom_len
lex-atom bs n h e =
    let ds = drop (n + 1) bs in
    let k = atom_len ds in
    let num : n + 1 + k ≡ n + suc k = omega arith in
    let b = get_or bs n 0 in
    rw (front bs n h, e) (lex-atom_front b ds n e ∙ ap (λ (zs : List ℕ). record { start = n; text = Atom (b ∷ take k ds) } ∷ lex (n + suc k) false zs) (drop-drop k (n + 1) bs ∙ ap (λ (m : ℕ). drop m bs) num))

pub lex-single : (bs : List ℕ) (n : ℕ) → n < length bs → is_atom_byte (get_or bs n 0) ≡ false → nat_eq (get_or bs n 0) 59 ≡ false → is_blank (get_or bs n 0) ≡ false → left n bs ≡ record { start = n; text = single (get_or bs n 0) } ∷ left (n + 1) bs
unfolding lex
lex-single bs n h e1 e2 e3 = rw (front bs n h, e1, e2, e3) refl

-- ---- what next answers, by the first byte that is no blank

module _ (bs : List ℕ) (nesting n : ℕ) (within : n < length bs) where
  abbrev here : ℕ
  here = get_or bs n 0

  abbrev size : ℕ
  size = atom_len (drop n bs)

  atom_is : is_atom_byte here ≡ true → n + size ≤ length bs → left n bs ≡ record { start = n; text = Atom (take size (drop n bs)) } ∷ left (n + size) bs
  atom_is e le = lex-atom bs n within e

  atom_size : n + size ≤ length bs → length (take size (drop n bs)) ≡ size
  atom_size le = simp (length-take, length-drop) (omega arith)

  pub atom-long : is_atom_byte here ≡ true → n + size ≤ length bs → 255 < size → Err (faults.NameBytes n) ≡ answer nesting (left n bs)
  atom-long e le more = rw (lex-atom bs n within e, atom_size le, lt-leb size 255 more) refl

  pub atom-short : is_atom_byte here ≡ true → n + size ≤ length bs → size ≤ 255 → token kinds.Atom n (n + size) ≡ answer nesting (left n bs)
  atom-short e le few = rw (lex-atom bs n within e, atom_size le, le-leb size 255 few) refl

  pub atom-after : is_atom_byte here ≡ true → (left (n + size) bs ≡ rest (left n bs)) × (nesting ≡ nesting_after nesting (left n bs))
  atom-after e = rw (lex-atom bs n within e) (refl, refl)

  -- a byte that is a token, or belongs to none
  single-is : (b : ℕ) → here ≡ b → is_atom_byte b ≡ false → nat_eq b 59 ≡ false → is_blank b ≡ false → left n bs ≡ record { start = n; text = single b } ∷ left (n + 1) bs
  single-is b h e1 e2 e3 = rw (← h) (lex-single bs n within (rw h e1) (rw h e2) (rw h e3))

  pub open-deep : here ≡ 40 → 1000 ≤ nesting → Err (faults.Nesting n) ≡ answer nesting (left n bs)
  open-deep h deep = rw (single-is 40 h refl refl refl, le-ltb nesting 1000 deep) refl

  pub open-answer : here ≡ 40 → nesting < 1000 → token kinds.Open n (n + 1) ≡ answer nesting (left n bs)
  open-answer h less = rw (single-is 40 h refl refl refl, lt-ltb nesting 1000 less) refl

  pub open-after : here ≡ 40 → (left (n + 1) bs ≡ rest (left n bs)) × (nesting + 1 ≡ nesting_after nesting (left n bs))
  open-after h = rw (single-is 40 h refl refl refl) (refl, refl)

  pub close-answer : here ≡ 41 → token kinds.Close n (n + 1) ≡ answer nesting (left n bs)
  close-answer h = rw (single-is 41 h refl refl refl) refl

  pub close-after : here ≡ 41 → (left (n + 1) bs ≡ rest (left n bs)) × (nesting - 1 ≡ nesting_after nesting (left n bs))
  close-after h = rw (single-is 41 h refl refl refl) (refl, refl)

  pub stray-answer : is_atom_byte here ≡ false → nat_eq here 59 ≡ false → is_blank here ≡ false → (here ≡ 40 → ⊥) → (here ≡ 41 → ⊥) → Err (faults.Stray n) ≡ answer nesting (left n bs)
  stray-answer e1 e2 e3 h1 h2 = rw (lex-single bs n within e1 e2 e3, ne_eqb _ _ h1, ne_eqb _ _ h2) refl

  pub atom-gave : is_atom_byte here ≡ true → left n bs ≡ record { start = n; text = Atom (slice_range bs n (n + size)) } ∷ left (n + size) bs
  atom-gave e = let num : n + size - n ≡ size = omega arith in rw num (lex-atom bs n within e)

  pub open-gave : here ≡ 40 → left n bs ≡ record { start = n; text = Open } ∷ left (n + 1) bs
  open-gave h = single-is 40 h refl refl refl

  pub close-gave : here ≡ 41 → left n bs ≡ record { start = n; text = Close } ∷ left (n + 1) bs
  close-gave h = single-is 41 h refl refl refl

-- the tokens behind one are fewer
pub shorter : (s : Spanned) (old new : List Spanned) → old ≡ s ∷ new → length new < length old
shorter s old new e = rw e (omega arith)
