-- A reader of tokens, as what it has still to give.
use Rattle.std.specs.Prelude.{◌≡◌, ℕ, ◌≤◌, ◌<◌, List, [], ◌∷◌, length, slice_range, Option, Some, None, Result, Ok, Err}
use Rattle.sexp_reader.specs.Text.{Text, Open, Close, Atom}
use Rattle.sexp_reader.specs.Lex.{Spanned, left}
use Rattle.sexp_reader.specs.declared.TokenKind.{TokenKind}
use Rattle.sexp_reader.specs.declared.TokenKind.TheVariants as kinds
use Rattle.sexp_reader.specs.declared.Token.{Token}
use Rattle.sexp_reader.specs.declared.TokenFault.{TokenFault}
use Rattle.sexp_reader.specs.declared.Tokens.{Tokens}

-- the bytes of the text
abbrev pub source : Tokens → List ℕ
source t = t.bytes.now

-- the tokens that are still to come
abbrev pub stream : Tokens → List Spanned
stream t = left t.at t.bytes.now

-- how many brackets are open
abbrev pub depth : Tokens → ℕ
depth t = t.nesting

-- a token of a kind that has these bytes
abbrev pub text_of_kind : TokenKind → List ℕ → Text
text_of_kind kinds.Open bytes = Open
text_of_kind kinds.Close bytes = Close
text_of_kind kinds.Atom bytes = Atom bytes

-- the token's text, by its span
abbrev pub text_at : List ℕ → Token → Text
text_at bytes t = text_of_kind t.kind (slice_range bytes t.start t.end)

-- The token that was given stood at the front of those to come, and its text is the slice of its span.
abbrev pub Gave : Result (Option Token) TokenFault → List ℕ → List Spanned → List Spanned → Type 0
Gave (Ok None) bytes old new = (old ≡ []) × (new ≡ [])
Gave (Ok (Some t)) bytes old new = (old ≡ record { start = t.start; text = text_at bytes t } ∷ new) × (t.start ≤ t.end) × (t.end ≤ length bytes)
Gave (Err e) bytes old new = Unit {0}

-- The first token, if there is one, begins at the offset n or behind it.
abbrev pub StartsFrom : ℕ → List Spanned → Type 0
StartsFrom n [] = Unit {0}
StartsFrom n (s ∷ ss) = n ≤ s.start

-- Spans rise: a token that was given has a byte at least, and the next one begins at its end or behind it.
abbrev pub Rises : Result (Option Token) TokenFault → List Spanned → Type 0
Rises (Ok None) new = Unit {0}
Rises (Ok (Some t)) new = (t.start < t.end) × StartsFrom t.end new
Rises (Err e) new = Unit {0}
