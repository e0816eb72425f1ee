-- The form of a text of arguments, whatever their types are: `(args d d)`, where each d is a name, or in brackets a name before such items, one at least. And the first place of a text where no text of the form goes on.
use Rattle.std.specs.Prelude.{◌≡◌, ℕ, ◌+◌, List, [], ◌∷◌, ◌++◌, length, drop}
use Rattle.sexp_reader.specs.Text.{Text, Open, Close, Atom}
use Rattle.sexp_reader.specs.Lex.{Spanned, tokens_of}
use Rattle.dump_grammar.specs.Judge.{texts}
use Rattle.dump_grammar.specs.Keywords.{spelling}
use Rattle.dump_grammar.specs.declared.keyword.Keyword.TheVariants as words
use Rattle.first_order.specs.declared.faults.ArgsFault.TheVariants as faults
use Rattle.first_order.specs.declared.shapes.Shape.{Shape}
use Rattle.first_order.specs.Awaited.{ArgumentsFail, arguments_from}

mutual
  pub data FormItem : List Text → Type 0 where
    name_item : {a : List ℕ} → FormItem (Atom a ∷ [])
    bracket_item : {a : List ℕ} {ts : List Text} → FormItems ts → FormItem (Open ∷ Atom a ∷ (ts ++ Close ∷ []))

  -- one at least
  pub data FormItems : List Text → Type 0 where
    last_item : {ts : List Text} → FormItem ts → FormItems ts
    more_items : {ts us : List Text} → FormItem ts → FormItems us → FormItems (ts ++ us)

pub record HasForm (ts : List Text) : Type 0 where
  pub items : List Text
  pub are : FormItems items
  pub is : ts ≡ Open ∷ Atom (spelling words.Args) ∷ (items ++ Close ∷ [])

-- some text of the form begins with these tokens
abbrev pub GoesOn : List Text → Type 0
GoesOn ts = (us : List Text) × HasForm (ts ++ us)

-- behind tokens with which a text of the form begins: none begins with the next one besides, which stands at this offset; or there is none, the text has so many bytes, and they aren't one
abbrev pub BreaksBehind : (before : List Text) (len : ℕ) → List Spanned → (offset : ℕ) → Type 0
BreaksBehind before len [] o = (o ≡ len) × (HasForm before → ⊥)
BreaksBehind before len (s ∷ ss) o = (o ≡ s.start) × (GoesOn (before ++ s.text ∷ []) → ⊥)

-- the first token of these with which no text of the form goes on stands at this offset
pub record BreaksAt (len : ℕ) (ss : List Spanned) (offset : ℕ) : Type 0 where
  pub before : List Spanned
  pub after : List Spanned
  pub are : ss ≡ before ++ after
  pub begins : GoesOn (texts before)
  pub breaks : BreaksBehind (texts before) len after offset

-- `Syntax` comes at the first token with which no text of the form goes on, or at the end of a text that isn't one, whichever the types are; offsets are counted from the start of the whole
abbrev pub SyntaxIsOfTheForm : Type 0
SyntaxIsOfTheForm =
    (names : List (List ℕ)) (Ss : List (List Shape)) (bytes : List ℕ) (from o : ℕ) → arguments_from names Ss bytes from ≡ ArgumentsFail (faults.Syntax o) →
    (p : ℕ) × (o ≡ from + p) × BreaksAt (length (drop from bytes)) (tokens_of (drop from bytes)) p
