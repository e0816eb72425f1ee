-- The tokens of a text, computed from the front of its bytes, and what one call of `next` answers. That these are the tokens
-- which the text is made of is a law: `Tokenization`.
use Rattle.std.specs.Prelude.{ℕ, suc, ◌+◌, ◌-◌, List, [], ◌∷◌, length, drop, Bool, true, false, ◌&&◌, ◌||◌, nat_le, nat_lt, nat_eq, if◌then◌else◌, Option, Some, None, Result, Ok, Err}
use Rattle.sexp_reader.specs.Text.{Text, Open, Close, Atom, Stray}
use Rattle.sexp_reader.specs.declared.TokenKind.{TokenKind}
use Rattle.sexp_reader.specs.declared.TokenKind.TheVariants as kinds
use Rattle.sexp_reader.specs.declared.Token.{Token}
use Rattle.sexp_reader.specs.declared.TokenFault.{TokenFault}
use Rattle.sexp_reader.specs.declared.TokenFault.TheVariants as faults

-- a token and the offset of its first byte
pub record Spanned : Type 0 where
  pub start : ℕ
  pub text : Text

-- space, tab, LF, CR
abbrev pub is_blank : ℕ → Bool
is_blank b = nat_eq b 32 || nat_eq b 9 || nat_eq b 10 || nat_eq b 13

-- letters, digits and _ . ' -
abbrev pub is_atom_byte : ℕ → Bool
is_atom_byte b = (nat_le 97 b && nat_le b 122) || (nat_le 65 b && nat_le b 90) || (nat_le 48 b && nat_le b 57) || nat_eq b 95 || nat_eq b 46 || nat_eq b 39 || nat_eq b 45

-- how many bytes of an atom stand at the front
unfoldable pub atom_len : List ℕ → ℕ
atom_len [] = 0
atom_len (b ∷ bs) = if is_atom_byte b then suc (atom_len bs) else 0

-- a byte more at the front of the atom that the tokens begin with
abbrev pub more_bytes : ℕ → Text → Text
more_bytes b (Atom a) = Atom (b ∷ a)
more_bytes b t = t

abbrev pub longer : (n b : ℕ) → List Spanned → List Spanned
longer n b [] = []
longer n b (s ∷ ss) = record { start = n; text = more_bytes b s.text } ∷ ss

-- A byte of an atom before some bytes and their tokens: it begins an atom, or goes before the one that they begin with.
abbrev pub atom_before : (n b : ℕ) (next_too : Bool) → List Spanned → List Spanned
atom_before n b true ss = longer n b ss
atom_before n b false ss = record { start = n; text = Atom (b ∷ []) } ∷ ss

abbrev pub begins_atom : List ℕ → Bool
begins_atom [] = false
begins_atom (b ∷ bs) = is_atom_byte b

abbrev pub single : ℕ → Text
single b = if nat_eq b 40 then Open else (if nat_eq b 41 then Close else Stray)

-- The tokens of bytes that begin at the offset n, outside a comment or in one.
unfoldable pub lex : (n : ℕ) (in_comment : Bool) → List ℕ → List Spanned
lex n c [] = []
lex n true (b ∷ bs) = if nat_eq b 10 then lex (n + 1) false bs else lex (n + 1) true bs
lex n false (b ∷ bs) =
    if is_atom_byte b then atom_before n b (begins_atom bs) (lex (n + 1) false bs)
    else if nat_eq b 59 then lex (n + 1) true bs
    else if is_blank b then lex (n + 1) false bs
    else record { start = n; text = single b } ∷ lex (n + 1) false bs

-- all the tokens
abbrev pub tokens_of : List ℕ → List Spanned
tokens_of bytes = lex 0 false bytes

-- ---- one call of `next`: its answer, and what is left after it

abbrev pub token : TokenKind → ℕ → ℕ → Result (Option Token) TokenFault
token kind start end = Ok (Some (record { kind = kind; start = start; «end» = end }))

-- What the token at an offset answers, where so many brackets are open: it, or a fault. At most 1,000 brackets stand open, and an
-- atom has at most 255 bytes.
abbrev pub answer_at : (nesting start : ℕ) → Text → Result (Option Token) TokenFault
answer_at nesting start Open = if nat_lt nesting 1000 then token kinds.Open start (start + 1) else Err (faults.Nesting start)
answer_at nesting start Close = token kinds.Close start (start + 1)
answer_at nesting start (Atom a) = if nat_le (length a) 255 then token kinds.Atom start (start + length a) else Err (faults.NameBytes start)
answer_at nesting start Stray = Err (faults.Stray start)

-- the answer at the front of the tokens that are left
abbrev pub answer : ℕ → List Spanned → Result (Option Token) TokenFault
answer nesting [] = Ok None
answer nesting (s ∷ ss) = answer_at nesting s.start s.text

abbrev pub rest : List Spanned → List Spanned
rest [] = []
rest (s ∷ ss) = ss

-- how many brackets are open behind a token; where none is, a bracket that closes changes nothing
abbrev pub nesting_after_text : ℕ → Text → ℕ
nesting_after_text n Open = n + 1
nesting_after_text n Close = n - 1
nesting_after_text n _ = n

abbrev pub nesting_after : ℕ → List Spanned → ℕ
nesting_after n [] = n
nesting_after n (s ∷ ss) = nesting_after_text n s.text

-- the tokens from an offset on
abbrev pub left : ℕ → List ℕ → List Spanned
left at bytes = lex at false (drop at bytes)
