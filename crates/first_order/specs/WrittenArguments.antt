-- Arguments as they are written: `(args`, then each behind a blank the text of an argument's data by the names of constructors, and `)`. What is so written is read as that data: a law.
use Rattle.std.specs.Prelude.{◌≡◌, ◌≢◌, ℕ, ◌<◌, List, [], ◌∷◌, ◌++◌, length, true, Some, slice_get}
use Rattle.sexp_reader.specs.Lex.{is_atom_byte, tokens_of}
use Rattle.sexp_reader.specs.Tokenization.{Each}
use Rattle.dump_grammar.specs.Keywords.{spelling}
use Rattle.dump_grammar.specs.declared.keyword.Keyword.TheVariants as words
use Rattle.dump_grammar.specs.Judge.{texts}
use Rattle.calculus_rules.specs.FirstOrder.{Data}
use Rattle.first_order.specs.declared.shapes.Shape.{Shape}
use Rattle.first_order.specs.declared.shapes.ShapeCtor.{ShapeCtor}
use Rattle.first_order.specs.Texts.{by_shapes, IsText}
use Rattle.first_order.specs.ArgumentTexts.{SpellsArguments}

abbrev pub behind_blanks : List (List ℕ) → List ℕ
behind_blanks [] = []
behind_blanks (t ∷ ts) = 32 ∷ (t ++ behind_blanks ts)

-- 40 and 41 are the brackets
abbrev pub arguments_text : List (List ℕ) → List ℕ
arguments_text ts = 40 ∷ (spelling words.Args ++ (behind_blanks ts ++ (41 ∷ [])))

-- the text of each argument's data, at the first type of its own set
pub data AreWritten (names : List (List ℕ)) : List (List Shape) → List Data → List (List ℕ) → Type 0 where
  none_written : AreWritten names [] [] []
  one_written : {S : List Shape} {Ss : List (List Shape)} {d : Data} {ds : List Data} {t : List ℕ} {ts : List (List ℕ)} → IsText (by_shapes S names) 0 d t → AreWritten names Ss ds ts →
      AreWritten names (S ∷ Ss) (d ∷ ds) (t ∷ ts)

abbrev pub AreAtoms : List (List ℕ) → Type 0
AreAtoms names = (n : ℕ) (name : List ℕ) → slice_get names n ≡ Some name → (0 < length name) × Each (λ b. is_atom_byte b ≡ true) name

-- a constructor of a type is the only one of its name there
abbrev pub HasOwnNames : (names : List (List ℕ)) → List ShapeCtor → Type 0
HasOwnNames names ks =
    (c e : ℕ) (k l : ShapeCtor) (name : List ℕ) → slice_get ks c ≡ Some k → slice_get ks e ≡ Some l → slice_get names k.name.0 ≡ Some name → slice_get names l.name.0 ≡ Some name → c ≡ e

abbrev pub TypesHaveOwnNames : (names : List (List ℕ)) → List Shape → Type 0
TypesHaveOwnNames names S = (i : ℕ) (h : Shape) → slice_get S i ≡ Some h → HasOwnNames names h.ctors

abbrev pub AllHaveOwnNames : (names : List (List ℕ)) → List (List Shape) → Type 0
AllHaveOwnNames names [] = Unit {0}
AllHaveOwnNames names (S ∷ Ss) = TypesHaveOwnNames names S × AllHaveOwnNames names Ss

-- What is written is read as the same data, where names are atoms and each constructor is the only one of its name at its type.
abbrev pub WhatIsWrittenIsSpelled : Type 0
WhatIsWrittenIsSpelled = (names : List (List ℕ)) (Ss : List (List Shape)) (ds : List Data) (ts : List (List ℕ)) → AreAtoms names → AllHaveOwnNames names Ss → Ss ≢ [] → AreWritten names Ss ds ts →
    SpellsArguments names Ss (texts (tokens_of (arguments_text ts))) ds
