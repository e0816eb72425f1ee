-- The bytes of canonical text: tokens with one space between two of them, and none behind an opening bracket or before a closing one.
use Rattle.std.specs.Prelude.{ℕ, List, [], ◌∷◌, ◌++◌, Bool, true, false}
use Rattle.sexp_reader.specs.Text.{Text, Open, Close, Atom, Stray}

-- What stands before an opening bracket or an atom: a space, but for the start of the text and behind an opening bracket, where it is tight.
abbrev pub gap : (tight : Bool) → List ℕ
gap true = []
gap false = 32 ∷ []

-- the bytes of tokens that follow; 40 and 41 are the brackets
unfoldable pub laid : (tight : Bool) → List Text → List ℕ
laid tight [] = []
laid tight (Open ∷ ts) = gap tight ++ 40 ∷ laid true ts
laid tight (Close ∷ ts) = 41 ∷ laid false ts
laid tight (Atom a ∷ ts) = gap tight ++ (a ++ laid false ts)
laid tight (Stray ∷ ts) = laid tight ts

-- the bytes of a text's tokens
abbrev pub spaced : List Text → List ℕ
spaced ts = laid true ts
