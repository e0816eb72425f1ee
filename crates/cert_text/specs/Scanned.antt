-- What comes next in a text, from an offset on.
use Rattle.std.specs.Prelude.{◌≡◌, ℕ, ◌<◌, ◌≤◌, List, [], ◌∷◌, length, slice_range, Option, Some, None}
use Rattle.sexp_reader.specs.Text.{Text, Open, Close, Atom, Stray}
use Rattle.sexp_reader.specs.Lex.{left}
use Rattle.cert_text.specs.declared.scan.Kind.{Kind}
use Rattle.cert_text.specs.declared.scan.Kind.TheVariants as kinds
use Rattle.cert_text.specs.declared.scan.Token.{Token}

-- a token of a kind that has these bytes
abbrev pub text_of_kind : Kind → List ℕ → Text
text_of_kind kinds.Open bytes = Open
text_of_kind kinds.Close bytes = Close
text_of_kind kinds.Atom bytes = Atom bytes
text_of_kind kinds.Stray bytes = Stray

-- the token's text, by its span
abbrev pub text_of : List ℕ → Token → Text
text_of bytes t = text_of_kind t.kind (slice_range bytes t.start t.end)

-- the tokens from here on are none, or this one and those behind it
abbrev pub IsNext : List ℕ → ℕ → Option Token → Type 0
IsNext bytes at None = left at bytes ≡ []
IsNext bytes at (Some t) = left at bytes ≡ record { start = t.start; text = text_of bytes t } ∷ left t.end bytes

-- it has a byte at least, and stands within the text
abbrev pub IsWithin : List ℕ → ℕ → Option Token → Type 0
IsWithin bytes at None = Unit {0}
IsWithin bytes at (Some t) = (at < t.end) × (t.start ≤ t.end) × (t.end ≤ length bytes)
