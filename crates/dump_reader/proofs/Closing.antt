-- Where the front of a text ends that is accepted up to a bracket, where no comment begins before it.
use Rattle.std.proofs.Common.{◌≡◌, ◌≢◌, ◌∙◌, ℕ, suc, ◌+◌, ◌-◌, ◌<◌, List, [], ◌∷◌, ◌++◌, length, get_or, take, drop, Bool, true, false, cond, Ok, refl, sym, ap, subst, arith}
use Rattle.std.proofs.lemmas.Bool.{ne_eqb}
use Rattle.std.proofs.lemmas.List.{take_more, take-append-drop, length-take-le, get_or-take}
use Rattle.sexp_reader.specs.Text.{Close}
use Rattle.sexp_reader.specs.Lex.{Spanned, atom_before, begins_atom, is_atom_byte, is_blank, lex, longer, single, tokens_of}
use Rattle.sexp_reader.specs.Tokenization.{Each}
use Rattle.sexp_reader.proofs.Steps.{front, lex-atom_front}
use Rattle.dump_grammar.specs.Table.{Value, VEnv}
use Rattle.dump_grammar.specs.Judge.{Fine, verdict}
use Rattle.dump_reader.specs.Ahead.{IsBehindBracket}
use Rattle.dump_reader.specs.Front.{front_end, front_length}
use Rattle.dump_reader.specs.Spelling.{IsFrontVerdict, IsVerdict, verdict_on}
use Rattle.dump_reader.specs.declared.environment.RawEnv.{RawEnv}
use Rattle.dump_reader.proofs.Balance.{accepted_ends}

-- ---- the tokens before a bracket and those from it on

-- the bracket at an offset, and the tokens of the bytes behind it
abbrev from_bracket : ℕ → List ℕ → List Spanned
from_bracket n ys = record { start = n; text = Close } ∷ lex (n + 1) false ys

begins_same : (xs ys : List ℕ) → begins_atom (xs ++ 41 ∷ ys) ≡ begins_atom xs
begins_same [] ys = refl
begins_same (x ∷ xs) ys = refl

longer_parts : (n b : ℕ) (L Z : List Spanned) (s : Spanned) (ss : List Spanned) → L ≡ s ∷ ss → longer n b (L ++ Z) ≡ longer n b L ++ Z
longer_parts n b L Z s ss e = rw e refl

-- a byte of an atom goes before the tokens before a bracket alone
atom_parts : (n b : ℕ) (xs : List ℕ) (Z : List Spanned) → atom_before n b (begins_atom xs) (lex (n + 1) false xs ++ Z) ≡ atom_before n b (begins_atom xs) (lex (n + 1) false xs) ++ Z
unfolding lex
atom_parts n b [] Z = refl
atom_parts n b (c ∷ cs) Z =
    let goal : (t : Bool) → is_atom_byte c ≡ t → atom_before n b t (lex (n + 1) false (c ∷ cs) ++ Z) ≡ atom_before n b t (lex (n + 1) false (c ∷ cs)) ++ Z =
    λ t. elim t as (λ t. is_atom_byte c ≡ t → atom_before n b t (lex (n + 1) false (c ∷ cs) ++ Z) ≡ atom_before n b t (lex (n + 1) false (c ∷ cs)) ++ Z) [
      | true ↦ λ e. longer_parts n b (lex (n + 1) false (c ∷ cs)) Z _ _ (lex-atom_front c cs (n + 1) e)
      | false ↦ λ e. refl
    ] in
    goal (is_atom_byte c) refl

-- a byte of an atom, a blank, or a token of its own
byte_parts : (atom blank : Bool) (A B L M : List Spanned) (s : Spanned) (Z : List Spanned) → A ≡ B ++ Z → L ≡ M ++ Z → cond atom A (cond blank L (s ∷ L)) ≡ cond atom B (cond blank M (s ∷ M)) ++ Z
byte_parts true blank A B L M s Z e f = e
byte_parts false true A B L M s Z e f = f
byte_parts false false A B L M s Z e f = ap (λ (ss : List Spanned). s ∷ ss) f

before_bracket : (n : ℕ) (xs ys : List ℕ) → Each (λ b. b ≢ 59) xs → lex n false (xs ++ 41 ∷ ys) ≡ lex n false xs ++ from_bracket (n + length xs) ys
unfolding lex
before_bracket n [] ys h = (let num : n ≡ n + 0 = omega arith in ap (λ m. from_bracket m ys) num)
before_bracket n (b ∷ xs) ys h =
    let num : n + 1 + length xs ≡ n + suc (length xs) = omega arith in
    let Z = from_bracket (n + suc (length xs)) ys in
    let more : lex (n + 1) false (xs ++ 41 ∷ ys) ≡ lex (n + 1) false xs ++ Z = before_bracket (n + 1) xs ys h.1 ∙ ap (λ m. lex (n + 1) false xs ++ from_bracket m ys) num in
    let atom : atom_before n b (begins_atom (xs ++ 41 ∷ ys)) (lex (n + 1) false (xs ++ 41 ∷ ys)) ≡ atom_before n b (begins_atom xs) (lex (n + 1) false xs) ++ Z =
    rw (begins_same xs ys, more) (atom_parts n b xs Z) in
    rw (ne_eqb b 59 h.0) (byte_parts (is_atom_byte b) (is_blank b) _ _ _ _ (record { start = n; text = single b }) Z atom more)

-- ---- a text that is accepted up to a bracket

each_byte : (xs : List ℕ) → ((k : ℕ) → k < length xs → get_or xs k 0 ≢ 59) → Each (λ b. b ≢ 59) xs
each_byte [] h = tt
each_byte (x ∷ xs) h = (h 0 (omega arith), each_byte xs (λ k l. h (suc k) (omega (arith, l))))

parts_end : (xs ys : List ℕ) (len : ℕ) (ws : List Value) → Each (λ b. b ≢ 59) xs → verdict len (tokens_of (xs ++ 41 ∷ [])) ≡ Fine ws → (whole : ℕ) → front_end whole 0 (tokens_of (xs ++ 41 ∷ ys)) ≡ 0 + length xs + 1
unfolding lex
parts_end xs ys len ws h e whole =
    let accepted : verdict len (lex 0 false xs ++ from_bracket (0 + length xs) []) ≡ Fine ws = ap (λ (ss : List Spanned). verdict len ss) (sym (before_bracket 0 xs [] h)) ∙ e in
    ap (λ (ss : List Spanned). front_end whole 0 ss) (before_bracket 0 xs ys h) ∙ accepted_ends len whole (0 + length xs) (lex (0 + length xs + 1) false ys) ws (lex 0 false xs) accepted

module _ (bytes : List ℕ) (at : ℕ) (b : IsBehindBracket bytes at) where
  abbrev before : List ℕ
  before = take (at - 1) bytes

  before_length : length before ≡ at - 1
  before_length = length-take-le (at - 1) bytes (omega (arith, b.within))

  no_comments : Each (λ b. b ≢ 59) before
  no_comments = each_byte before (λ k l e.
      let q = before_length in
      let h : k < at - 1 = omega (arith, q, l) in
      b.no_comment k (omega (arith, h)) (sym (get_or-take (at - 1) bytes k 0 h) ∙ e))

  one_more : at - 1 + 1 ≡ at
  one_more = omega (arith, b.some)

  in_reach : at - 1 < length bytes
  in_reach = omega (arith, b.some, b.within)

  front_parts : take at bytes ≡ before ++ 41 ∷ []
  front_parts = ap (λ n. take n bytes) (sym one_more) ∙ take_more bytes (at - 1) 0 in_reach ∙ ap (λ c. before ++ c ∷ []) b.bracket

  whole_parts : bytes ≡ before ++ 41 ∷ drop at bytes
  whole_parts =
      sym (take-append-drop (at - 1) bytes)
      ∙ ap (λ (w : List ℕ). before ++ w) (front bytes (at - 1) in_reach ∙ ap (λ c. c ∷ drop (at - 1 + 1) bytes) b.bracket ∙ ap (λ n. 41 ∷ drop n bytes) one_more)

  front_is : (ws : List Value) → verdict_on (take at bytes) ≡ Fine ws → front_length bytes ≡ at
  front_is ws e =
      let accepted : verdict (length (take at bytes)) (tokens_of (before ++ 41 ∷ [])) ≡ Fine ws = ap (λ (w : List ℕ). verdict (length (take at bytes)) (tokens_of w)) (sym front_parts) ∙ e in
      let num : 0 + length before + 1 ≡ at = omega (arith, before_length, b.some) in
      ap (λ (w : List ℕ). front_end (length bytes) 0 (tokens_of w)) whole_parts ∙ parts_end before (drop at bytes) (length (take at bytes)) ws no_comments accepted (length bytes) ∙ num

  -- the verdict on the front is that on the bytes up to the bracket
  pub front_verdict : (env : RawEnv) → IsVerdict (take at bytes) (Ok env) → IsFrontVerdict bytes (Ok (env, at))
  front_verdict env v =
      let is = front_is (VEnv v.0 ∷ []) v.1 in
      (sym is, subst (λ n. IsVerdict (take n bytes) (Ok env)) (sym is) v)
