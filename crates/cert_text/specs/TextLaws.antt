-- Laws of the text of certificates, as statements.
use Rattle.std.specs.Prelude.{◌≡◌, ◌↔◌, ℕ, List, [], ◌∷◌, ◌++◌, length}
use Rattle.sexp_reader.specs.Text.{Text}
use Rattle.sexp_reader.specs.Lex.{Spanned}
use Rattle.dump_grammar.specs.Judge.{texts}
use Rattle.cert_rules.specs.Walk.{Items}
use Rattle.cert_text.specs.CertText.{cert_tokens, cert_text, AreSmall}
use Rattle.cert_text.specs.CertReading.{Read, WrongToken, read_certificate, read_bytes}

-- tokens spell a certificate whose numbers can be held
abbrev pub SpellsCert : List Spanned → Items → Type 0
SpellsCert ss is = (texts ss ≡ cert_tokens is) × AreSmall is

-- what is read is what the tokens spell, and all that they spell is read
abbrev pub ReadingIsExact : Type 0
ReadingIsExact = (len : ℕ) (ss : List Spanned) (is : Items) → (read_certificate len ss ≡ Read is) ↔ SpellsCert ss is

-- tokens with which the text of a certificate whose numbers can be held may begin
abbrev pub Begins : List Text → Type 0
Begins ts = (is : Items) × (rest : List Text) × AreSmall is × (ts ++ rest ≡ cert_tokens is)

-- where reading fails behind tokens: at the first of the others, with which no text goes on, or at the text's end
abbrev pub FailsAt : ℕ → ℕ → List Text → List Spanned → Type 0
FailsAt len o before [] = o ≡ len
FailsAt len o before (s ∷ ss) = (s.start ≡ o) × (Begins (before ++ s.text ∷ []) → ⊥)

-- a wrong token is the first that continues no text of a certificate
abbrev pub WrongIsFirst : Type 0
WrongIsFirst = (len : ℕ) (ss : List Spanned) (o : ℕ) → read_certificate len ss ≡ WrongToken o →
    (before : List Spanned) × (after : List Spanned) × (before ++ after ≡ ss) × Begins (texts before) × FailsAt len o (texts before) after

-- what is printed behind other bytes is read from there on
abbrev pub IsReadBack : Items → Type 0
IsReadBack is = (before : List ℕ) → read_bytes (before ++ cert_text is) (length before) ≡ Read is

abbrev pub PrintedIsRead : Type 0
PrintedIsRead = (is : Items) → AreSmall is → IsReadBack is
