-- Each atom of a text is ASCII.
use Rattle.std.proofs.Common.{◌≡◌, ℕ, ◌+◌, ◌<◌, List, [], ◌∷◌, Bool, true, false, cond, Option, Some, None, Ok, refl, subst, arith}
use Rattle.std.specs.Prelude.{nat_eq, slice_range}
use Rattle.std.specs.Str.{IsAscii}
use Rattle.std.proofs.lemmas.Str.Ascii.{IsAscii-nil, IsAscii-cons}
use Rattle.std.proofs.lemmas.Bool.Decides.{nat_tests}
use Rattle.sexp_reader.specs.Text.{Text, Open, Close, Atom, Stray}
use Rattle.sexp_reader.specs.Lex.{Spanned, is_blank, is_atom_byte, more_bytes, longer, atom_before, begins_atom, single, lex}
use Rattle.sexp_reader.specs.Stream.{source, stream, text_of_kind, text_at, Gave}
use Rattle.sexp_reader.specs.declared.Token.{Token}
use Rattle.sexp_reader.specs.declared.TokenKind.{TokenKind}
use Rattle.sexp_reader.specs.declared.Tokens.{Tokens}
use Rattle.dump_grammar.specs.Judge.{texts}
use Rattle.dump_parser.specs.Reading.{IsAsciiAtom}

abbrev pub IsPlain : Text → Type 0
IsPlain (Atom a) = IsAscii a
IsPlain _ = Unit {0}

abbrev pub ArePlain : List Text → Type 0
ArePlain [] = Unit {0}
ArePlain (t ∷ ts) = IsPlain t × ArePlain ts

atom-byte : (b : ℕ) → is_atom_byte b ≡ true → b < 128
atom-byte b e = grind (arith, nat_tests)

more-plain : (b : ℕ) (t : Text) → b < 128 → IsPlain t → IsPlain (more_bytes b t)
more-plain b (Atom a) h p = IsAscii-cons b a h p
more-plain b Open h p = tt
more-plain b Close h p = tt
more-plain b Stray h p = tt

longer-plain : (n b : ℕ) (ss : List Spanned) → b < 128 → ArePlain (texts ss) → ArePlain (texts (longer n b ss))
longer-plain n b [] h p = tt
longer-plain n b (s ∷ ss) h p = (more-plain b s.text h p.0, p.1)

before-plain : (n b : ℕ) (c : Bool) (ss : List Spanned) → b < 128 → ArePlain (texts ss) → ArePlain (texts (atom_before n b c ss))
before-plain n b true ss h p = longer-plain n b ss h p
before-plain n b false ss h p = (IsAscii-cons b [] h IsAscii-nil, p)

single-plain : (b : ℕ) → IsPlain (single b)
single-plain b =
    let P : Bool → Bool → Type 0 = λ x y. IsPlain (cond x Open (cond y Close Stray)) in
    let on : (x y : Bool) → P x y = λ x y. elim x as (λ x. P x y) [ true ↦ tt | false ↦ elim y as (λ y. P false y) [ true ↦ tt | false ↦ tt ] ] in
    on (nat_eq b 40) (nat_eq b 41)

pub lex-plain : (bs : List ℕ) (n : ℕ) (c : Bool) → ArePlain (texts (lex n c bs))
unfolding lex
lex-plain [] n c = tt
lex-plain (b ∷ bs) n true =
    let P : Bool → Type 0 = λ x. ArePlain (texts (cond x (lex (n + 1) false bs) (lex (n + 1) true bs))) in
    let on : (x : Bool) → P x = λ x. elim x as P [ true ↦ lex-plain bs (n + 1) false | false ↦ lex-plain bs (n + 1) true ] in
    on (nat_eq b 10)
lex-plain (b ∷ bs) n false =
    let last : Bool → Type 0 = λ z. ArePlain (texts (cond z (lex (n + 1) false bs) (record { start = n; text = single b } ∷ lex (n + 1) false bs))) in
    let after : (z : Bool) → last z = λ z. elim z as last [ true ↦ lex-plain bs (n + 1) false | false ↦ (single-plain b, lex-plain bs (n + 1) false) ] in
    let P : Bool → Type 0 = λ x. is_atom_byte b ≡ x → ArePlain (texts (cond x (atom_before n b (begins_atom bs) (lex (n + 1) false bs)) (cond (nat_eq b 59) (lex (n + 1) true bs) (cond (is_blank b) (lex (n + 1) false bs) (record { start = n; text = single b } ∷ lex (n + 1) false bs))))) in
    let Q : Bool → Type 0 = λ y. ArePlain (texts (cond y (lex (n + 1) true bs) (cond (is_blank b) (lex (n + 1) false bs) (record { start = n; text = single b } ∷ lex (n + 1) false bs)))) in
    let second : (y : Bool) → Q y = λ y. elim y as Q [ true ↦ lex-plain bs (n + 1) true | false ↦ after (is_blank b) ] in
    let on : (x : Bool) → P x = λ x. elim x as P [
      | true ↦ λ e. before-plain n b (begins_atom bs) (lex (n + 1) false bs) (atom-byte b e) (lex-plain bs (n + 1) false)
      | false ↦ λ e. second (nat_eq b 59)
    ] in
    on (is_atom_byte b) refl

-- the text of a token that was given
pub ascii_atom : (o : Option Token) (old new : Tokens) → Gave (Ok o) (source old) (stream old) (stream new) → IsAsciiAtom (Ok o) old
ascii_atom None old new gave = tt
ascii_atom (Some t) old new gave = λ e.
    let all : ArePlain (texts (stream old)) = lex-plain _ _ _ in
    let plain : IsPlain (text_at (source old) t) = (subst (λ (ss : List Spanned). ArePlain (texts ss)) gave.0 all).0 in
    subst (λ (k : TokenKind). IsPlain (text_of_kind k (slice_range (source old) t.start t.end))) e plain
