-- The tokens from an offset on begin there or behind it.
use Rattle.std.proofs.Common.{◌≡◌, ℕ, ◌+◌, ◌<◌, List, [], ◌∷◌, length, get_or, drop, Bool, true, false, arith, inl, inr}
use Rattle.std.proofs.lemmas.Bool.{cases_Bool}
use Rattle.std.specs.Prelude.{nat_eq}
use Rattle.sexp_reader.specs.Lex.{is_blank, is_atom_byte, atom_len, lex, atom_before, begins_atom, Spanned}
use Rattle.sexp_reader.specs.Stream.{StartsFrom}
use Rattle.sexp_reader.proofs.Steps.{atom_len-more}

from-less : (ss : List Spanned) (n : ℕ) → StartsFrom (n + 1) ss → StartsFrom n ss
from-less [] n h = tt
from-less (s ∷ ss) n h = omega (arith, h)

from-atom : (n b : ℕ) (next_too : Bool) (ss : List Spanned) → StartsFrom n (atom_before n b next_too ss)
from-atom n b true [] = tt
from-atom n b true (s ∷ ss) = omega arith
from-atom n b false ss = omega arith

pub lex-from : (bytes : List ℕ) (n : ℕ) (in_comment : Bool) → StartsFrom n (lex n in_comment bytes)
unfolding lex
lex-from [] n c = tt
lex-from (b ∷ bs) n true =
    elim (cases_Bool (nat_eq b 10)) [
      | inl e ↦ rw e (from-less _ n (lex-from bs (n + 1) false))
      | inr e ↦ rw e (from-less _ n (lex-from bs (n + 1) true))
    ]
lex-from (b ∷ bs) n false =
    elim (cases_Bool (is_atom_byte b)) [
      | inl e ↦ rw e (from-atom n b (begins_atom bs) (lex (n + 1) false bs))
      | inr no_atom ↦ elim (cases_Bool (nat_eq b 59)) [
        | inl e ↦ rw (no_atom, e) (from-less _ n (lex-from bs (n + 1) true))
        | inr no_comment ↦ elim (cases_Bool (is_blank b)) [
          | inl e ↦ rw (no_atom, no_comment, e) (from-less _ n (lex-from bs (n + 1) false))
          | inr e ↦ rw (no_atom, no_comment, e) (omega arith)
        ]
      ]
    ]

-- an atom has a byte
pub atom_len-some : (bs : List ℕ) (n : ℕ) → n < length bs → is_atom_byte (get_or bs n 0) ≡ true → n < n + atom_len (drop n bs)
atom_len-some bs n h e = omega (arith, atom_len-more bs n h e)
