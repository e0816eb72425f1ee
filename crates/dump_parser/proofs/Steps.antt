-- How the verdict goes on at the next token.
use Rattle.std.proofs.lemmas.Bool.{le-leb, cases_lt}
use Rattle.std.proofs.Common.{⊎_elim, ◌+◌, ◌≡◌, ℕ, ◌<◌, List, [], ◌∷◌, length, Option, Some, None, Ok, Err, Bool, true, false, refl, ap, arith}
use Rattle.std.specs.Prelude.{nat_le, bytes_eq}
use Rattle.sexp_reader.specs.Text.{Text, Open, Close, Atom, Stray}
use Rattle.sexp_reader.specs.Lex.{Spanned, answer, answer_at, rest, nesting_after}
use Rattle.sexp_reader.specs.Stream.{source, stream, depth, text_at, Gave}
use Rattle.sexp_reader.specs.declared.Token.{Token}
use Rattle.sexp_reader.specs.declared.Tokens.{Tokens}
use Rattle.sexp_reader.specs.declared.TokenFault.{TokenFault}
use Rattle.dump_grammar.specs.Table.{Value, Item, Action, ITerm, IOpen, IHead, IType, ITypeHead, Do, act}
use Rattle.sexp_reader.specs.Lex.{token}
use Rattle.sexp_reader.specs.declared.TokenKind.TheVariants as kinds
use Rattle.sexp_reader.specs.declared.TokenFault.TheVariants as faults
use Rattle.dump_grammar.specs.Keywords.{spelling}
use Rattle.dump_grammar.specs.declared.keyword.Keyword.{Keyword}
use Rattle.dump_grammar.specs.declared.keyword.Keyword.TheVariants as words
use Rattle.dump_grammar.proofs.Words.{same_bytes}
use Rattle.dump_grammar.specs.Limits.{begins_declaration, is_declaration}
use Rattle.dump_grammar.specs.Judge.{fault_refusal, texts}
use Rattle.dump_grammar.proofs.Verdicts.{judge-end, judge-next, judge-fault, judge-do, judge-term, judge-type}
use Rattle.dump_parser.specs.Reading.{judged, Gets, Ahead}
use Rattle.sexp_reader.proofs.Steps.{shorter}

pub gets : (o : Option Token) (old new : Tokens) → Ok o ≡ answer (depth old) (stream old) → (stream new ≡ rest (stream old)) × (depth new ≡ nesting_after (depth old) (stream old)) → Gave (Ok o) (source old) (stream old) (stream new) → source new ≡ source old → Gets (Ok o) old new
gets None old new a ok gave same = record { same = same; shorter = tt; within = tt; goes = λ is vs. judge-end _ (stream old) (depth old) is vs gave.0 }
gets (Some t) old new a ok gave same = record {
  same = same;
  shorter = shorter _ (stream old) (stream new) gave.0;
  within = (gave.1, gave.2);
  goes = λ is vs. judge-next (length (source old)) (length (source new)) (stream old) (stream new) (depth old) (depth new) t.start (text_at (source old) t) (Some t) is vs (ap length same) gave.0 ok.1 a;
}

pub ahead : (o : Option Token) (old new : Tokens) → Gave (Ok o) (source old) (stream old) (stream new) → Ahead (Ok o) old new
ahead None old new gave = ap texts gave.0
ahead (Some t) old new gave = ap texts gave.0

pub fault : (f : TokenFault) (old new : Tokens) → Err f ≡ answer (depth old) (stream old) → source new ≡ source old → Gets (Err (fault_refusal f)) old new
fault f old new a same = record { same = same; shorter = tt; within = tt; goes = λ is vs. judge-fault (length (source old)) (stream old) (depth old) f is vs a }

-- ---- for the tactics

pub judged_do : (t : Tokens) (a : Action) (i : Item) (k : List Item) (vs : List Value) → judged t (Do a i ∷ k) vs ≡ judged t (i ∷ k) (act a vs)
judged_do t a i k vs = judge-do _ _ _ a i k vs

pub judged_term : (t : Tokens) (k : List Item) (vs : List Value) → judged t (ITerm ∷ k) vs ≡ judged t (IOpen ∷ IHead ∷ k) vs
judged_term t k vs = judge-term _ _ _ k vs

pub judged_type : (t : Tokens) (k : List Item) (vs : List Value) → judged t (IType ∷ k) vs ≡ judged t (IOpen ∷ ITypeHead ∷ k) vs
judged_type t k vs = judge-type _ _ _ k vs

-- ---- an atom that is too long is no word of a declaration

not-word : (a : List ℕ) (w : Keyword) → length (spelling w) < length a → bytes_eq a (spelling w) ≡ false
not-word a w h =
    let on : (b : Bool) → bytes_eq a (spelling w) ≡ b → b ≡ false = λ b. elim b as (λ b. bytes_eq a (spelling w) ≡ b → b ≡ false) [
      | true ↦ λ e. absurd (let same : length a ≡ length (spelling w) = ap length (same_bytes a (spelling w) e) in omega (arith, h, same))
      | false ↦ λ e. refl
    ] in
    on (bytes_eq a (spelling w)) refl

long-atom : (a : List ℕ) → 255 < length a → is_declaration a ≡ false
unfolding spelling
long-atom a h =
    let constant : bytes_eq a (spelling words.ConstantDecl) ≡ false = not-word a words.ConstantDecl (omega (arith, h)) in
    let block : bytes_eq a (spelling words.InductiveDecl) ≡ false = not-word a words.InductiveDecl (omega (arith, h)) in
    let other : bytes_eq a (spelling words.CoInductiveDecl) ≡ false = not-word a words.CoInductiveDecl (omega (arith, h)) in
    rw (constant, block, other) refl

abbrev Long : ℕ → Text → Type 0
Long d t = (o st : ℕ) → Err (faults.NameBytes o) ≡ answer_at d st t → (rest : List Text) → begins_declaration (t ∷ rest) ≡ false

long-text : (d : ℕ) (t : Text) → Long d t
long-text d Open = λ o st e rest. refl
long-text d Close = λ o st e rest. refl
long-text d (Atom a) = λ o st e rest.
    ⊎_elim (λ lt. long-atom a lt) (λ le. absurd (let fine : nat_le (length a) 255 ≡ true = le-leb (length a) 255 le in let h : Err (faults.NameBytes o) ≡ token kinds.Atom st (st + length a) = rw fine at e in cc)) (cases_lt 255 (length a))
long-text d Stray = λ o st e rest. refl

pub long-ahead : (o d : ℕ) (ss : List Spanned) → Err (faults.NameBytes o) ≡ answer d ss → begins_declaration (texts ss) ≡ false
long-ahead o d [] e = refl
long-ahead o d (s ∷ ss) e = long-text d s.text o s.start e (texts ss)
