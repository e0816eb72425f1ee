-- The texts of tokens don't depend on where the bytes stand.
use Rattle.std.proofs.Common.{◌≡◌, ◌∙◌, ℕ, ◌+◌, List, [], ◌∷◌, Bool, true, false, refl, sym, ap, inl, inr}
use Rattle.std.proofs.lemmas.Bool.{cases_Bool}
use Rattle.std.specs.Prelude.{nat_eq}
use Rattle.sexp_reader.specs.Text.{Text, Atom}
use Rattle.sexp_reader.specs.Lex.{Spanned, atom_before, begins_atom, is_atom_byte, is_blank, lex, longer, more_bytes, single}
use Rattle.dump_grammar.specs.Judge.{texts}

abbrev grown : ℕ → List Text → List Text
grown b [] = []
grown b (t ∷ ts) = more_bytes b t ∷ ts

longer_texts : (n b : ℕ) (ss : List Spanned) → texts (longer n b ss) ≡ grown b (texts ss)
longer_texts n b [] = refl
longer_texts n b (s ∷ ss) = refl

atom_texts : (n m b : ℕ) (next_too : Bool) (ss ts : List Spanned) → texts ss ≡ texts ts → texts (atom_before n b next_too ss) ≡ texts (atom_before m b next_too ts)
atom_texts n m b true ss ts e = longer_texts n b ss ∙ ap (grown b) e ∙ sym (longer_texts m b ts)
atom_texts n m b false ss ts e = ap (λ us. Atom (b ∷ []) ∷ us) e

pub texts_anywhere : (n m : ℕ) (c : Bool) (bs : List ℕ) → texts (lex n c bs) ≡ texts (lex m c bs)
unfolding lex
texts_anywhere n m c [] = refl
texts_anywhere n m true (b ∷ bs) =
    elim (cases_Bool (nat_eq b 10)) [
      | inl e ↦ rw e (texts_anywhere (n + 1) (m + 1) false bs)
      | inr e ↦ rw e (texts_anywhere (n + 1) (m + 1) true bs)
    ]
texts_anywhere n m false (b ∷ bs) =
    elim (cases_Bool (is_atom_byte b)) [
      | inl e ↦ rw e (atom_texts n m b (begins_atom bs) (lex (n + 1) false bs) (lex (m + 1) false bs) (texts_anywhere (n + 1) (m + 1) false bs))
      | inr no_atom ↦ elim (cases_Bool (nat_eq b 59)) [
        | inl e ↦ rw (no_atom, e) (texts_anywhere (n + 1) (m + 1) true bs)
        | inr no_comment ↦ elim (cases_Bool (is_blank b)) [
          | inl e ↦ rw (no_atom, no_comment, e) (texts_anywhere (n + 1) (m + 1) false bs)
          | inr e ↦ rw (no_atom, no_comment, e) (ap (λ us. single b ∷ us) (texts_anywhere (n + 1) (m + 1) false bs))
        ]
      ]
    ]
