-- Every text has a layout, and its tokens are those that are read.
use Rattle.std.proofs.Common.{◌≡◌, ◌≢◌, ℕ, suc, ◌+◌, List, [], ◌∷◌, ◌++◌, length, true, false, refl, sym, ap, ◌∙◌, arith, inl, inr, ◌⊎◌}
use Rattle.std.proofs.Math.Seq.{drop-append_seam, take-append_seam}
use Rattle.std.proofs.lemmas.Bool.{ne_eqb, eqb-true, eqb-false, or_cases, cases_Bool}
use Rattle.std.specs.Prelude.{nat_eq}
use Rattle.sexp_reader.specs.Text.{Open, Close, Atom, Stray}
use Rattle.sexp_reader.specs.Lex.{is_blank, is_atom_byte, atom_len, lex, begins_atom, Spanned}
use Rattle.sexp_reader.specs.Tokenization.{Layout, End, LastComment, CommentThen, BlankThen, OpenThen, CloseThen, AtomThen, StrayThen, bytes_of, spans_of, Each, BeginsNoAtom, IsLayout, IsTheTokenization}
use Rattle.sexp_reader.proofs.Steps.{lex-atom_front, blank_is_no_atom}

blank_is_no_comment : (b : ℕ) → is_blank b ≡ true → nat_eq b 59 ≡ false
blank_is_no_comment b e =
    elim (or_cases _ _ e) [
      | inl e ↦ elim (or_cases _ _ e) [
        | inl e ↦ elim (or_cases _ _ e) [
          | inl e ↦ rw (eqb-true b 32 e) refl
          | inr e ↦ rw (eqb-true b 9 e) refl
        ]
        | inr e ↦ rw (eqb-true b 10 e) refl
      ]
      | inr e ↦ rw (eqb-true b 13 e) refl
    ]

-- ---- the tokens of a layout are those that are read

lex-last_comment : (comment : List ℕ) (n : ℕ) → Each (λ b. b ≢ 10) comment → lex n true comment ≡ []
unfolding lex
lex-last_comment [] n h = refl
lex-last_comment (b ∷ bs) n h = rw (ne_eqb b 10 h.0) (lex-last_comment bs (n + 1) h.1)

lex-comment_then : (comment bs : List ℕ) (n : ℕ) → Each (λ b. b ≢ 10) comment → lex n true (comment ++ 10 ∷ bs) ≡ lex (n + length comment + 1) false bs
unfolding lex
lex-comment_then [] bs n h = let num : n + 1 ≡ n + 0 + 1 = omega arith in ap (λ (m : ℕ). lex m false bs) num
lex-comment_then (b ∷ comment) bs n h =
    let num : n + 1 + length comment + 1 ≡ n + suc (length comment) + 1 = omega arith in
    rw (ne_eqb b 10 h.0) (lex-comment_then comment bs (n + 1) h.1 ∙ ap (λ (m : ℕ). lex m false bs) num)

-- atom bytes that end before what is no atom
atom_len-all : (atom bs : List ℕ) → Each (λ b. is_atom_byte b ≡ true) atom → begins_atom bs ≡ false → atom_len (atom ++ bs) ≡ length atom
unfolding atom_len
atom_len-all [] [] h e = refl
atom_len-all [] (b ∷ bs) h e = rw e refl
atom_len-all (a ∷ atom) bs h e = rw h.0 (ap suc (atom_len-all atom bs h.1 e))

begins-none : (l : Layout) → IsLayout l → BeginsNoAtom l → begins_atom (bytes_of l) ≡ false
begins-none End h n = refl
begins-none (LastComment comment) h n = refl
begins-none (CommentThen comment more) h n = refl
begins-none (BlankThen b more) h n = blank_is_no_atom b h.0
begins-none (OpenThen more) h n = refl
begins-none (CloseThen more) h n = refl
begins-none (AtomThen atom more) h n = absurd n
begins-none (StrayThen b more) h n = h.0.0

lex-atom_whole : (b : ℕ) (atom bs : List ℕ) (n : ℕ) → Each (λ c. is_atom_byte c ≡ true) (b ∷ atom) → begins_atom bs ≡ false → lex n false (b ∷ (atom ++ bs)) ≡ record { start = n; text = Atom (b ∷ atom) } ∷ lex (n + suc (length atom)) false bs
lex-atom_whole b atom bs n h e =
    let size = atom_len-all atom bs h.1 e in
    lex-atom_front b (atom ++ bs) n h.0 ∙ rw (size, take-append_seam atom bs, drop-append_seam atom bs) refl

pub spans-read : (l : Layout) (n : ℕ) → IsLayout l → spans_of n l ≡ lex n false (bytes_of l)
unfolding lex
spans-read End n h = refl
spans-read (LastComment comment) n h = sym (lex-last_comment comment (n + 1) h)
spans-read (CommentThen comment more) n h = spans-read more _ h.1 ∙ sym (lex-comment_then comment (bytes_of more) (n + 1) h.0)
spans-read (BlankThen b more) n h = rw (blank_is_no_atom b h.0, blank_is_no_comment b h.0, h.0) (spans-read more (n + 1) h.1)
spans-read (OpenThen more) n h = ap (λ (ss : List Spanned). record { start = n; text = Open } ∷ ss) (spans-read more (n + 1) h)
spans-read (CloseThen more) n h = ap (λ (ss : List Spanned). record { start = n; text = Close } ∷ ss) (spans-read more (n + 1) h)
spans-read (AtomThen [] more) n h = absurd (omega (arith, h.0))
spans-read (AtomThen (b ∷ atom) more) n h =
    ap (λ (ss : List Spanned). record { start = n; text = Atom (b ∷ atom) } ∷ ss) (spans-read more (n + suc (length atom)) h.3)
    ∙ sym (lex-atom_whole b atom (bytes_of more) n h.1 (begins-none more h.3 h.2))
spans-read (StrayThen b more) n h =
    let none = h.0 in
    rw (none.0, none.1, ne_eqb b 40 none.2, ne_eqb b 41 none.3, ne_eqb b 59 none.4) (ap (λ (ss : List Spanned). record { start = n; text = Stray } ∷ ss) (spans-read more (n + 1) h.1))

-- ---- every text has a layout

abbrev Laid : List ℕ → Type 0
Laid bytes = (l : Layout) × IsLayout l × (bytes_of l ≡ bytes)

-- what stands in a comment: the rest of the text, or bytes up to LF and a layout behind it
abbrev Commented : List ℕ → Type 0
Commented bytes =
    Each (λ b. b ≢ 10) bytes
    ⊎ ((comment : List ℕ) × (more : Layout) × Each (λ b. b ≢ 10) comment × IsLayout more × (comment ++ 10 ∷ bytes_of more ≡ bytes))

-- an atom's byte begins an atom, or goes before the one that stands next
atom-front : (b : ℕ) (l : Layout) → is_atom_byte b ≡ true → IsLayout l → (m : Layout) × IsLayout m × (bytes_of m ≡ b ∷ bytes_of l)
atom-front b (AtomThen atom more) e h = (AtomThen (b ∷ atom) more, (omega arith, (e, h.1), h.2, h.3), refl)
atom-front b End e h = (AtomThen (b ∷ []) End, (omega arith, (e, tt), tt, h), refl)
atom-front b (LastComment comment) e h = (AtomThen (b ∷ []) (LastComment comment), (omega arith, (e, tt), tt, h), refl)
atom-front b (CommentThen comment more) e h = (AtomThen (b ∷ []) (CommentThen comment more), (omega arith, (e, tt), tt, h), refl)
atom-front b (BlankThen c more) e h = (AtomThen (b ∷ []) (BlankThen c more), (omega arith, (e, tt), tt, h), refl)
atom-front b (OpenThen more) e h = (AtomThen (b ∷ []) (OpenThen more), (omega arith, (e, tt), tt, h), refl)
atom-front b (CloseThen more) e h = (AtomThen (b ∷ []) (CloseThen more), (omega arith, (e, tt), tt, h), refl)
atom-front b (StrayThen c more) e h = (AtomThen (b ∷ []) (StrayThen c more), (omega arith, (e, tt), tt, h), refl)

longer-comment : (b : ℕ) (bytes : List ℕ) → b ≢ 10 → Commented bytes → Commented (b ∷ bytes)
longer-comment b bytes ne c =
    elim c [
      | inl h ↦ inl (ne, h)
      | inr p ↦ inr (b ∷ p.0, p.1, (ne, p.2), p.3, ap (λ (bs : List ℕ). b ∷ bs) p.4)
    ]

commented : (b : ℕ) (bytes : List ℕ) → Laid bytes → Commented bytes → Commented (b ∷ bytes)
commented b bytes l c =
    elim (cases_Bool (nat_eq b 10)) [
      | inl e ↦ rw (eqb-true b 10 e) (inr ([], l.0, tt, l.1, ap (λ (bs : List ℕ). 10 ∷ bs) l.2))
      | inr e ↦ longer-comment b bytes (eqb-false b 10 e) c
    ]

comment-front : (bytes : List ℕ) → Commented bytes → Laid (59 ∷ bytes)
comment-front bytes c =
    elim c [
      | inl h ↦ (LastComment bytes, h, refl)
      | inr p ↦ (CommentThen p.0 p.1, (p.2, p.3), ap (λ (bs : List ℕ). 59 ∷ bs) p.4)
    ]

-- a byte that is no atom's, before a layout
other-front : (b : ℕ) (bytes : List ℕ) → is_atom_byte b ≡ false → Laid bytes → Commented bytes → Laid (b ∷ bytes)
other-front b bytes no_atom l c =
    let more = ap (λ (bs : List ℕ). b ∷ bs) l.2 in
    elim (cases_Bool (nat_eq b 59)) [
      | inl e ↦ rw (eqb-true b 59 e) (comment-front bytes c)
      | inr no_comment ↦ elim (cases_Bool (is_blank b)) [
        | inl e ↦ (BlankThen b l.0, (e, l.1), more)
        | inr no_blank ↦ elim (cases_Bool (nat_eq b 40)) [
          | inl e ↦ (OpenThen l.0, l.1, rw (eqb-true b 40 e) (ap (λ (bs : List ℕ). 40 ∷ bs) l.2))
          | inr no_open ↦ elim (cases_Bool (nat_eq b 41)) [
            | inl e ↦ (CloseThen l.0, l.1, rw (eqb-true b 41 e) (ap (λ (bs : List ℕ). 41 ∷ bs) l.2))
            | inr no_close ↦ (StrayThen b l.0, ((no_atom, no_blank, eqb-false b 40 no_open, eqb-false b 41 no_close, eqb-false b 59 no_comment), l.1), more)
          ]
        ]
      ]
    ]

laid-more : (b : ℕ) (bytes : List ℕ) → Laid bytes → Commented bytes → Laid (b ∷ bytes)
laid-more b bytes l c =
    elim (cases_Bool (is_atom_byte b)) [
      | inl e ↦ let m = atom-front b l.0 e l.1 in (m.0, m.1, m.2 ∙ ap (λ (bs : List ℕ). b ∷ bs) l.2)
      | inr e ↦ other-front b bytes e l c
    ]

laid : (bytes : List ℕ) → Laid bytes × Commented bytes
laid [] = ((End, tt, refl), inl tt)
laid (b ∷ bytes) = let h = laid bytes in (laid-more b bytes h.0 h.1, commented b bytes h.0 h.1)

pub tokenization : IsTheTokenization
tokenization = record {
  is_one = λ bytes. let l = (laid bytes).0 in (l.0, l.1, l.2, spans-read l.0 0 l.1 ∙ ap (λ (bs : List ℕ). lex 0 false bs) l.2);
  only = λ bytes tokens h. sym h.3 ∙ spans-read h.0 0 h.1 ∙ ap (λ (bs : List ℕ). lex 0 false bs) h.2;
}
