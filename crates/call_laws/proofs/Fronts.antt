-- The tokens of a text are those of its front, and then those of what stands behind it.
use Rattle.std.proofs.Common.{◌≡◌, ◌∙◌, ℕ, zero, suc, ◌+◌, ◌≤◌, List, [], ◌∷◌, ◌++◌, length, take, drop, Bool, true, false, Option, Some, None, Result, Ok, Err, refl, sym, ap, subst, inl, inr, arith, le_refl}
use Rattle.std.proofs.Math.Seq.{drop-append_seam, take-append_seam, take-append-add, drop-append-add}
use Rattle.std.proofs.lemmas.Bool.{cases_Bool}
use Rattle.std.proofs.lemmas.List.{append-nil, take-append-drop, take_all, drop_all, length-append}
use Rattle.std.specs.Prelude.{nat_eq, nat_lt, nat_le, if◌then◌else◌}
use Rattle.sexp_reader.specs.Text.{Text, Open, Close, Atom, Stray}
use Rattle.sexp_reader.specs.Lex.{Spanned, answer_at, atom_len, is_atom_byte, is_blank, lex, nesting_after_text, single, token, tokens_of}
use Rattle.sexp_reader.specs.declared.Token.{Token}
use Rattle.sexp_reader.specs.declared.TokenKind.{TokenKind}
use Rattle.sexp_reader.specs.declared.TokenKind.TheVariants as kinds
use Rattle.sexp_reader.specs.declared.TokenFault.{TokenFault}
use Rattle.sexp_reader.specs.declared.TokenFault.TheVariants as faults
use Rattle.sexp_reader.proofs.Steps.{lex-atom_front}
use Rattle.dump_grammar.specs.Judge.{texts}
use Rattle.dump_reader.specs.Front.{end_behind, front_end}
use Rattle.call_laws.specs.Texts.{FrontAndRestAreTheInput}
use Rattle.dump_grammar.proofs.TextsAnywhere.{texts_anywhere}

-- ---- where the front ends, the tokens are parted

-- behind so many bytes the front of a text ends that begins where so many brackets are open, in a comment or not
record Parted (n d : ℕ) (c : Bool) (bytes : List ℕ) : Type 0 where
  past : ℕ
  ends : front_end (n + length bytes) d (lex n c bytes) ≡ n + past
  parts : texts (lex n c bytes) ≡ texts (lex n c (take past bytes)) ++ texts (lex (n + past) false (drop past bytes))

no_token : (n : ℕ) (c : Bool) → lex n c [] ≡ []
unfolding lex
no_token n c = refl

-- at the end of all bytes
at_end : (n d : ℕ) (c : Bool) (bytes : List ℕ) → front_end (n + length bytes) d (lex n c bytes) ≡ n + length bytes → Parted n d c bytes
at_end n d c bytes e =
    let k = length bytes in
    record {
      past = k;
      ends = e;
      parts =
          sym (append-nil (texts (lex n c bytes)))
          ∙ ap (λ us. texts (lex n c us) ++ []) (sym (take_all k bytes (le_refl k)))
          ∙ ap (λ us. texts (lex n c (take k bytes)) ++ texts us) (sym (no_token (n + k) false) ∙ ap (lex (n + k) false) (sym (drop_all k bytes (le_refl k))));
    }

-- a byte of no token
skipped : (n d b : ℕ) (c c' : Bool) (bs : List ℕ) → ((xs : List ℕ) → lex n c (b ∷ xs) ≡ lex (n + 1) c' xs) → Parted (n + 1) d c' bs → Parted n d c (b ∷ bs)
skipped n d b c c' bs same r =
    let size : n + 1 + length bs ≡ n + suc (length bs) = omega arith in
    let end : n + 1 + r.past ≡ n + suc r.past = omega arith in
    record {
      past = suc r.past;
      ends = ap (front_end (n + suc (length bs)) d) (same bs) ∙ subst (λ len. front_end len d (lex (n + 1) c' bs) ≡ n + suc r.past) size (r.ends ∙ end);
      parts =
          ap texts (same bs) ∙ r.parts
          ∙ ap (λ us. texts us ++ texts (lex (n + 1 + r.past) false (drop r.past bs))) (sym (same (take r.past bs)))
          ∙ ap (λ us. texts (lex n c (b ∷ take r.past bs)) ++ us) (texts_anywhere (n + 1 + r.past) (n + suc r.past) false (drop r.past bs));
    }

-- ---- a token

abbrev size_of : Text → ℕ
size_of (Atom a) = length a
size_of t = 1

given_end : (b : Bool) (kind : TokenKind) (start end : ℕ) (f : TokenFault) (t : Token) → (if b then token kind start end else Err f) ≡ Ok (Some t) → t.end ≡ end
given_end true kind start end f t e = let same : record { kind = kind; start = start; «end» = end } ≡ t = cc in ap (λ (z : Token). z.end) (sym same)
given_end false kind start end f t e = absurd cc

token_end : (d n : ℕ) (t : Text) (token : Token) → answer_at d n t ≡ Ok (Some token) → token.end ≡ n + size_of t
token_end d n Open token e = given_end (nat_lt d 1000) kinds.Open n (n + 1) (faults.Nesting n) token e
token_end d n Close token e = given_end true kinds.Close n (n + 1) (faults.Nesting n) token e
token_end d n (Atom a) token e = given_end (nat_le (length a) 255) kinds.Atom n (n + length a) (faults.NameBytes n) token e
token_end d n Stray token e = absurd cc

-- at a token the front ends behind all bytes, behind the token, or where the tokens after it say
data Behind (len : ℕ) (r : Result (Option Token) TokenFault) (k later : ℕ) : Type 0 where
  at_all : end_behind len r k later ≡ len → Behind len r k later
  at_token : (t : Token) → r ≡ Ok (Some t) → end_behind len r k later ≡ t.end → Behind len r k later
  goes_on : end_behind len r k later ≡ later → Behind len r k later

behind : (len : ℕ) (r : Result (Option Token) TokenFault) (k later : ℕ) → Behind len r k later
behind len (Ok (Some t)) zero later = at_token t refl refl
behind len (Ok (Some t)) (suc k) later = goes_on refl
behind len (Ok None) k later = at_all refl
behind len (Err f) k later = at_all refl

first_token : (len d : ℕ) (s : Spanned) (ss : List Spanned) → front_end len d (s ∷ ss) ≡ end_behind len (answer_at d s.start s.text) (nesting_after_text d s.text) (front_end len (nesting_after_text d s.text) ss)
unfolding front_end
first_token len d s ss = refl

-- a token of these bytes, whatever part of the rest stands behind it
module _ (n d : ℕ) (t : Text) (front rest : List ℕ) (size : length front ≡ size_of t)
    (reads : (p : ℕ) → lex n false (front ++ take p rest) ≡ record { start = n; text = t } ∷ lex (n + length front) false (take p rest)) where
  abbrev past_token : ℕ
  past_token = n + length front

  abbrev nesting : ℕ
  nesting = nesting_after_text d t

  abbrev all : ℕ
  all = n + length (front ++ rest)

  whole : lex n false (front ++ rest) ≡ record { start = n; text = t } ∷ lex past_token false rest
  whole = subst (λ xs. lex n false (front ++ xs) ≡ record { start = n; text = t } ∷ lex past_token false xs) (take_all (length rest) rest (le_refl (length rest))) (reads (length rest))

  alone : texts (lex n false front) ≡ t ∷ []
  alone = ap (λ xs. texts (lex n false xs)) (sym (append-nil front)) ∙ ap texts (reads 0) ∙ ap (λ ss. t ∷ texts ss) (no_token past_token false)

  ends_as : front_end all d (lex n false (front ++ rest)) ≡ end_behind all (answer_at d n t) nesting (front_end all nesting (lex past_token false rest))
  ends_as = ap (front_end all d) whole ∙ first_token all d (record { start = n; text = t }) (lex past_token false rest)

  of_token : Parted past_token nesting false rest → Behind all (answer_at d n t) nesting (front_end all nesting (lex past_token false rest)) → Parted n d false (front ++ rest)
  of_token r (at_all e) = at_end n d false (front ++ rest) (ends_as ∙ e)
  of_token r (at_token token a e) = record {
    past = length front;
    ends = ends_as ∙ e ∙ token_end d n t token a ∙ ap (λ k. n + k) (sym size);
    parts =
        ap texts whole
        ∙ ap (λ us. us ++ texts (lex past_token false rest)) (sym alone)
        ∙ ap (λ xs. texts (lex n false xs) ++ texts (lex past_token false rest)) (sym (take-append_seam front rest))
        ∙ ap (λ xs. texts (lex n false (take (length front) (front ++ rest))) ++ texts (lex past_token false xs)) (sym (drop-append_seam front rest));
  }
  of_token r (goes_on e) =
      let p = r.past in
      let size : past_token + length rest ≡ all = omega (arith, length-append front rest) in
      let end : past_token + p ≡ n + (length front + p) = omega arith in
      record {
        past = length front + p;
        ends = ends_as ∙ e ∙ subst (λ len. front_end len nesting (lex past_token false rest) ≡ past_token + p) size r.ends ∙ end;
        parts =
            ap texts whole
            ∙ ap (λ us. t ∷ us) r.parts
            ∙ ap (λ ss. texts ss ++ texts (lex (past_token + p) false (drop p rest))) (sym (reads p))
            ∙ ap (λ us. texts (lex n false (front ++ take p rest)) ++ us) (texts_anywhere (past_token + p) (n + (length front + p)) false (drop p rest))
            ∙ ap (λ xs. texts (lex n false xs) ++ texts (lex (n + (length front + p)) false (drop p rest))) (sym (take-append-add front rest p))
            ∙ ap (λ xs. texts (lex n false (take (length front + p) (front ++ rest))) ++ texts (lex (n + (length front + p)) false xs)) (sym (drop-append-add front rest p));
      }

  token_parted : Parted past_token nesting false rest → Parted n d false (front ++ rest)
  token_parted r = of_token r (behind all (answer_at d n t) nesting (front_end all nesting (lex past_token false rest)))

-- ---- byte by byte

comment_ends : (n b : ℕ) (xs : List ℕ) → nat_eq b 10 ≡ true → lex n true (b ∷ xs) ≡ lex (n + 1) false xs
unfolding lex
comment_ends n b xs e = rw e refl

comment_goes : (n b : ℕ) (xs : List ℕ) → nat_eq b 10 ≡ false → lex n true (b ∷ xs) ≡ lex (n + 1) true xs
unfolding lex
comment_goes n b xs e = rw e refl

comment_begins : (n b : ℕ) (xs : List ℕ) → is_atom_byte b ≡ false → nat_eq b 59 ≡ true → lex n false (b ∷ xs) ≡ lex (n + 1) true xs
unfolding lex
comment_begins n b xs a e = rw (a, e) refl

blank_goes : (n b : ℕ) (xs : List ℕ) → is_atom_byte b ≡ false → nat_eq b 59 ≡ false → is_blank b ≡ true → lex n false (b ∷ xs) ≡ lex (n + 1) false xs
unfolding lex
blank_goes n b xs a c e = rw (a, c, e) refl

byte_alone : (n b : ℕ) (xs : List ℕ) → is_atom_byte b ≡ false → nat_eq b 59 ≡ false → is_blank b ≡ false → lex n false (b ∷ xs) ≡ record { start = n; text = single b } ∷ lex (n + 1) false xs
unfolding lex
byte_alone n b xs a c e = rw (a, c, e) refl

single_size : (b : ℕ) → 1 ≡ size_of (single b)
single_size b = of (nat_eq b 40) (nat_eq b 41)
  where
    of : (x y : Bool) → 1 ≡ size_of (if x then Open else (if y then Close else Stray))
    of true y = refl
    of false true = refl
    of false false = refl

-- an atom ends where it did, whatever part of the rest stands behind it
atom_ends : (bs : List ℕ) (k : ℕ) → atom_len bs ≡ k → (p : ℕ) → atom_len (take k bs ++ take p (drop k bs)) ≡ length (take k bs)
unfolding atom_len
atom_ends [] zero e zero = refl
atom_ends [] zero e (suc p) = refl
atom_ends [] (suc k) e p = absurd cc
atom_ends (b ∷ bs) zero e zero = refl
atom_ends (b ∷ bs) zero e (suc p) = elim (cases_Bool (is_atom_byte b)) [ inl t ↦ absurd (let z = rw t at e in cc) | inr t ↦ rw t refl ]
atom_ends (b ∷ bs) (suc k) e p =
    elim (cases_Bool (is_atom_byte b)) [
      | inl t ↦ (let z = rw t at e in let less : atom_len bs ≡ k = omega (arith, z) in rw t (ap suc (atom_ends bs k less p)))
      | inr t ↦ absurd (let z = rw t at e in cc)
    ]

atom_reads : (n b : ℕ) (bs : List ℕ) → is_atom_byte b ≡ true → (p : ℕ) →
    lex n false ((b ∷ take (atom_len bs) bs) ++ take p (drop (atom_len bs) bs)) ≡ record { start = n; text = Atom (b ∷ take (atom_len bs) bs) } ∷ lex (n + suc (length (take (atom_len bs) bs))) false (take p (drop (atom_len bs) bs))
atom_reads n b bs e p =
    let a = take (atom_len bs) bs in
    let rest = take p (drop (atom_len bs) bs) in
    lex-atom_front b (a ++ rest) n e ∙ rw (atom_ends bs (atom_len bs) refl p, take-append_seam a rest, drop-append_seam a rest) refl

none_ends : (n d : ℕ) (c : Bool) → front_end (n + 0) d (lex n c []) ≡ n + 0
unfolding front_end lex
none_ends n d c = refl

all_parted : (fuel n d : ℕ) (c : Bool) (bytes : List ℕ) → length bytes ≤ fuel → Parted n d c bytes
all_parted fuel n d c [] le = at_end n d c [] (none_ends n d c)
all_parted zero n d c (b ∷ bs) le = absurd (omega arith)
all_parted (suc fuel) n d true (b ∷ bs) le =
    elim (cases_Bool (nat_eq b 10)) [
      | inl e ↦ skipped n d b true false bs (λ xs. comment_ends n b xs e) (all_parted fuel (n + 1) d false bs (omega arith))
      | inr e ↦ skipped n d b true true bs (λ xs. comment_goes n b xs e) (all_parted fuel (n + 1) d true bs (omega arith))
    ]
all_parted (suc fuel) n d false (b ∷ bs) le =
    elim (cases_Bool (is_atom_byte b)) [
      | inl atom ↦
          let k = atom_len bs in
          let a = take k bs in
          let rest = drop k bs in
          let whole = take-append-drop k bs in
          let less : length rest ≤ fuel = omega (arith, ap length whole, length-append a rest) in
          subst (Parted n d false) (ap (λ xs. b ∷ xs) whole) (token_parted n d (Atom (b ∷ a)) (b ∷ a) rest refl (atom_reads n b bs atom) (all_parted fuel (n + length (b ∷ a)) d false rest less))
      | inr no_atom ↦ elim (cases_Bool (nat_eq b 59)) [
        | inl e ↦ skipped n d b false true bs (λ xs. comment_begins n b xs no_atom e) (all_parted fuel (n + 1) d true bs (omega arith))
        | inr no_comment ↦ elim (cases_Bool (is_blank b)) [
          | inl e ↦ skipped n d b false false bs (λ xs. blank_goes n b xs no_atom no_comment e) (all_parted fuel (n + 1) d false bs (omega arith))
          | inr e ↦ token_parted n d (single b) (b ∷ []) bs (single_size b) (λ p. byte_alone n b (take p bs) no_atom no_comment e) (all_parted fuel (n + 1) (nesting_after_text d (single b)) false bs (omega arith))
        ]
      ]
    ]

pub front_and_rest : FrontAndRestAreTheInput
front_and_rest bytes =
    let r = all_parted (length bytes) 0 0 false bytes (le_refl (length bytes)) in
    let size : 0 + length bytes ≡ length bytes = omega arith in
    let end : 0 + r.past ≡ r.past = omega arith in
    let is : front_end (length bytes) 0 (tokens_of bytes) ≡ r.past = subst (λ n. front_end n 0 (tokens_of bytes) ≡ r.past) size (r.ends ∙ end) in
    r.parts
    ∙ ap (λ us. texts (tokens_of (take r.past bytes)) ++ us) (texts_anywhere (0 + r.past) 0 false (drop r.past bytes))
    ∙ ap (λ m. texts (tokens_of (take m bytes)) ++ texts (tokens_of (drop m bytes))) (sym is)
