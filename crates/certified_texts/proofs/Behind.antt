-- An environment's canonical text with a certificate behind it is read as both.
use Rattle.std.proofs.Common.{◌≡◌, ◌∙◌, ℕ, ◌+◌, ◌≤◌, List, [], ◌∷◌, ◌++◌, length, take, drop, true, false, Ok, refl, sym, ap, subst, arith}
use Rattle.std.proofs.Math.Seq.{drop-append_seam, take-append_seam}
use Rattle.sexp_reader.specs.Lex.{Spanned, left, lex, tokens_of}
use Rattle.sexp_reader.specs.Tokenization.{Layout, BlankThen, End, IsLayout, bytes_of, spans_of}
use Rattle.sexp_reader.proofs.Layouts.{spans-read}
use Rattle.cert_rules.specs.Walk.{Items}
use Rattle.cert_text.specs.CertReading.{Read, read_bytes}
use Rattle.cert_text.specs.CertText.{AreSmall, cert_text, cert_tokens}
use Rattle.cert_text.proofs.PrintedTokens.{certificate_read, items_good}
use Rattle.dump_grammar.specs.Judge.{texts}
use Rattle.dump_printer.specs.Canonical.{canonical_text, canonical_tokens}
use Rattle.dump_printer.specs.Nesting.{nesting}
use Rattle.dump_printer.proofs.Good.{AreGood}
use Rattle.dump_printer.proofs.ReadBack.{text-read-back}
use Rattle.dump_printer.proofs.Spelling.{formed, tokens-good}
use Rattle.dump_reader.specs.Front.{front_bytes, front_end, front_length}
use Rattle.dump_reader.specs.Spelled.{IsSpelled}
use Rattle.dump_reader.specs.Spelling.{IsVerdict}
use Rattle.dump_reader.specs.declared.environment.RawEnv.{RawEnv}
use Rattle.certified_texts.specs.ReadBack.{CertifiedTextsAreRead, IsReadAsBoth, certified_text}
use Rattle.certified_texts.proofs.Closing.{canonical_ends}
use Rattle.certified_texts.proofs.Fronts.{front_laid, laid_then, then_bytes, then_is, then_texts}

-- LF at the end
abbrev line_end : Layout
line_end = BlankThen 10 End

-- LF, and a certificate's tokens
abbrev cert_layout : Items → Layout
cert_layout items = BlankThen 10 (laid_then true (cert_tokens items) line_end)

cert_good : (items : Items) → AreSmall items → AreGood (cert_tokens items)
cert_good items small = (tt, (refl, (refl, items_good items small)))

module _ (e : RawEnv) (items : Items) (spelled : IsSpelled e) (shallow : nesting (canonical_tokens e) ≤ 1000) (small : AreSmall items) where
  abbrev bytes : List ℕ
  bytes = certified_text e items

  abbrev layout : Layout
  layout = laid_then true (canonical_tokens e) (cert_layout items)

  front_good : AreGood (canonical_tokens e)
  front_good = tokens-good e (formed e spelled)

  behind_is : IsLayout (cert_layout items)
  behind_is = (refl, then_is true (cert_tokens items) line_end (cert_good items small) tt (refl, tt))

  behind_bytes : bytes_of (cert_layout items) ≡ 10 ∷ (cert_text items ++ 10 ∷ [])
  behind_bytes = ap (λ (w : List ℕ). 10 ∷ w) (then_bytes true (cert_tokens items) line_end)

  its_bytes : bytes_of layout ≡ bytes
  its_bytes = then_bytes true (canonical_tokens e) (cert_layout items) ∙ ap (λ (w : List ℕ). canonical_text e ++ w) behind_bytes

  its_tokens : tokens_of bytes ≡ spans_of 0 layout
  its_tokens = ap (λ (w : List ℕ). tokens_of w) (sym its_bytes) ∙ sym (spans-read layout 0 (then_is true (canonical_tokens e) (cert_layout items) front_good tt behind_is))

  front_is : front_length bytes ≡ length (canonical_text e)
  front_is =
      let n = length (canonical_text e) in
      let same : 0 + n ≡ n = omega arith in
      ap (λ (ss : List Spanned). front_end (length bytes) 0 ss) its_tokens
      ∙ front_laid (length bytes) 0 0 true (canonical_tokens e) (cert_layout items) front_good (canonical_ends e) shallow ∙ same

  front_bytes_are : front_bytes bytes ≡ canonical_text e
  front_bytes_are = ap (λ n. take n bytes) front_is ∙ take-append_seam (canonical_text e) (10 ∷ (cert_text items ++ 10 ∷ []))

  rest_is : (n : ℕ) → n ≡ length (canonical_text e) → left n bytes ≡ spans_of n (cert_layout items)
  rest_is n is =
      ap (λ (k : ℕ). lex n false (drop k bytes)) is
      ∙ ap (λ (w : List ℕ). lex n false w) (drop-append_seam (canonical_text e) (10 ∷ (cert_text items ++ 10 ∷ [])) ∙ sym behind_bytes)
      ∙ sym (spans-read (cert_layout items) n behind_is)

  certificate_is : read_bytes bytes (front_length bytes) ≡ Read items
  certificate_is =
      let n = front_length bytes in
      let t : texts (left n bytes) ≡ cert_tokens items = ap texts (rest_is n front_is) ∙ then_texts true (cert_tokens items) line_end (λ m. refl) (n + 1) (cert_good items small) in
      certificate_read (length bytes) (left n bytes) items t small

  is_read : IsReadAsBoth e items bytes
  is_read = record {
    front = front_bytes_are;
    environment = (sym front_is, subst (λ w. IsVerdict w (Ok e)) (sym front_bytes_are) (text-read-back e spelled shallow));
    certificate = certificate_is;
  }

pub both_read : CertifiedTextsAreRead
both_read e items spelled shallow small = is_read e items spelled shallow small
