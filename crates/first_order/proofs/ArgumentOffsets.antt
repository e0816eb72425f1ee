-- A refusal of a text of arguments stands within the text.
use Rattle.std.proofs.Common.{◌≡◌, ◌∙◌, ℕ, ◌+◌, ◌≤◌, List, [], ◌∷◌, ◌++◌, length, Option, Result, Ok, Err, Bool, true, false, refl, sym, ap, subst, inl, inr, arith}
use Rattle.std.proofs.lemmas.Bool.{cases_Bool}
use Rattle.std.specs.Prelude.{nat_eq, nat_lt, nat_le}
use Rattle.sexp_reader.specs.Text.{Text, Open, Close, Atom, Stray}
use Rattle.sexp_reader.specs.Lex.{Spanned, is_blank, is_atom_byte, begins_atom, atom_before, lex, tokens_of, token, answer_at, nesting_after_text}
use Rattle.sexp_reader.specs.declared.Token.{Token}
use Rattle.sexp_reader.specs.declared.TokenKind.TheVariants as kinds
use Rattle.sexp_reader.specs.declared.TokenFault.{TokenFault}
use Rattle.sexp_reader.specs.declared.TokenFault.TheVariants as tokens
use Rattle.calculus_rules.specs.FirstOrder.{Data}
use Rattle.first_order.specs.declared.shapes.Shape.{Shape}
use Rattle.first_order.specs.declared.faults.ArgsFault.{ArgsFault}
use Rattle.first_order.specs.declared.faults.ArgsFault.TheVariants as faults
use Rattle.first_order.specs.Awaited.{Awaited, Taking, BreaksForm, Misplaced, TakesToken, ArgumentReading, ArgumentsAre, ArgumentsFail, with_nodes, token_fault, answered, taken, taking, at_token, reading_of, call_arguments, AnswersReading}
use Rattle.first_order.specs.Nexts.{offset_in}

abbrev EachWithin : ℕ → List Spanned → Type 0
EachWithin m [] = Unit {0}
EachWithin m (s ∷ ss) = (s.start ≤ m) × EachWithin m ss

atom-within : (n b m : ℕ) (next_too : Bool) (ss : List Spanned) → n ≤ m → EachWithin m ss → EachWithin m (atom_before n b next_too ss)
atom-within n b m true [] le h = tt
atom-within n b m true (s ∷ ss) le h = (le, h.1)
atom-within n b m false ss le h = (le, h)

lex-within : (bytes : List ℕ) (n m : ℕ) (in_comment : Bool) → n + length bytes ≤ m → EachWithin m (lex n in_comment bytes)
unfolding lex
lex-within [] n m c le = tt
lex-within (b ∷ bs) n m true le =
    let next : n + 1 + length bs ≤ m = omega (arith, le) in
    elim (cases_Bool (nat_eq b 10)) [
      | inl e ↦ rw e (lex-within bs (n + 1) m false next)
      | inr e ↦ rw e (lex-within bs (n + 1) m true next)
    ]
lex-within (b ∷ bs) n m false le =
    let next : n + 1 + length bs ≤ m = omega (arith, le) in
    let here : n ≤ m = omega (arith, le) in
    elim (cases_Bool (is_atom_byte b)) [
      | inl e ↦ rw e (atom-within n b m (begins_atom bs) (lex (n + 1) false bs) here (lex-within bs (n + 1) m false next))
      | inr no_atom ↦ elim (cases_Bool (nat_eq b 59)) [
        | inl e ↦ rw (no_atom, e) (lex-within bs (n + 1) m true next)
        | inr no_comment ↦ elim (cases_Bool (is_blank b)) [
          | inl e ↦ rw (no_atom, no_comment, e) (lex-within bs (n + 1) m false next)
          | inr e ↦ rw (no_atom, no_comment, e) (here, lex-within bs (n + 1) m false next)
        ]
      ]
    ]

fault_is : (f g : ArgsFault) → ArgumentsFail f ≡ ArgumentsFail g → f ≡ g
fault_is f g e = cc

fault-within : (d start len : ℕ) (t : Text) (g : TokenFault) → start ≤ len → answer_at d start t ≡ Err g → offset_in (token_fault g) ≤ len
fault-within d start len t (tokens.NameBytes o) le e = omega arith
fault-within d start len t (tokens.Nesting o) le e = omega arith
fault-within d start len Open (tokens.Stray o) le e =
    elim (cases_Bool (nat_lt d 1000)) [
      | inl h ↦ absurd (let f : token kinds.Open start (start + 1) ≡ Err (tokens.Stray o) = rw h at e in cc)
      | inr h ↦ absurd (let f : Err (tokens.Nesting start) ≡ Err (tokens.Stray o) = rw h at e in cc)
    ]
fault-within d start len Close (tokens.Stray o) le e = absurd cc
fault-within d start len (Atom a) (tokens.Stray o) le e =
    elim (cases_Bool (nat_le (length a) 255)) [
      | inl h ↦ absurd (let f : token kinds.Atom start (start + length a) ≡ Err (tokens.Stray o) = rw h at e in cc)
      | inr h ↦ absurd (let f : Err (tokens.NameBytes start) ≡ Err (tokens.Stray o) = rw h at e in cc)
    ]
fault-within d start len Stray (tokens.Stray o) le e = let same : start ≡ o = cc in subst (λ n. n ≤ len) same le

behind_nodes : (ds : Data) (r : ArgumentReading) (f : ArgsFault) → with_nodes ds r ≡ ArgumentsFail f → r ≡ ArgumentsFail f
behind_nodes ds (ArgumentsAre es) f e = absurd cc
behind_nodes ds (ArgumentsFail g) f e = e

at-offset : (f g : ArgsFault) (o len : ℕ) → offset_in g ≡ o → o ≤ len → ArgumentsFail g ≡ ArgumentsFail f → offset_in f ≤ len
at-offset f g o len e le h = subst (λ n. n ≤ len) (sym e ∙ ap offset_in (fault_is g f h)) le

fails-within : (names : List (List ℕ)) (len : ℕ) (ss : List Spanned) (d : ℕ) (xs : List Awaited) (f : ArgsFault) → EachWithin len ss → reading_of names len ss d xs ≡ ArgumentsFail f → offset_in f ≤ len
unfolding reading_of
fails-within names len [] d [] f w e = absurd cc
fails-within names len [] d (x ∷ xs) f w e = at-offset f (faults.Syntax len) len len refl (omega arith) e
fails-within names len (s ∷ ss) d xs f w e =
    let go : List Awaited → ArgumentReading = λ ys. reading_of names len ss (nesting_after_text d s.text) ys in
    let after : (xs : List Awaited) → at_token names xs s.start s.text go ≡ ArgumentsFail f → offset_in f ≤ len =
    λ xs. elim xs as (λ xs. at_token names xs s.start s.text go ≡ ArgumentsFail f → offset_in f ≤ len) [
      | [] ↦ λ e. at-offset f (faults.Syntax s.start) s.start len refl w.0 e
      | x ∷ xs ↦ λ e.
          (let on : (t : Taking) → taken t s.start (λ ys. go (ys ++ xs)) ≡ ArgumentsFail f → offset_in f ≤ len =
          λ t. elim t as (λ t. taken t s.start (λ ys. go (ys ++ xs)) ≡ ArgumentsFail f → offset_in f ≤ len) [
            | BreaksForm ↦ λ e. at-offset f (faults.Syntax s.start) s.start len refl w.0 e
            | Misplaced ↦ λ e. at-offset f (faults.Wrong s.start) s.start len refl w.0 e
            | TakesToken ys ds ↦ λ e. fails-within names len ss (nesting_after_text d s.text) (ys ++ xs) f w.1 (behind_nodes ds (go (ys ++ xs)) f e)
          ] in
          on (taking names x s.text) e)
    ] in
    let on : (r : Result (Option Token) TokenFault) → answer_at d s.start s.text ≡ r → answered r (at_token names xs s.start s.text go) ≡ ArgumentsFail f → offset_in f ≤ len =
    λ r. elim r as (λ r. answer_at d s.start s.text ≡ r → answered r (at_token names xs s.start s.text go) ≡ ArgumentsFail f → offset_in f ≤ len) [
      | Ok o ↦ λ q e. after xs e
      | Err g ↦ λ q e. at-offset f (token_fault g) (offset_in (token_fault g)) len refl (fault-within d s.start len s.text g w.0 q) e
    ] in
    on (answer_at d s.start s.text) refl e

-- an answer that is a refusal stands within the text
pub refusal-within : (names : List (List ℕ)) (Ss : List (List Shape)) (bytes : List ℕ) (f : ArgsFault) → call_arguments names Ss bytes ≡ ArgumentsFail f → offset_in f ≤ length bytes
refusal-within names Ss bytes f e = fails-within names (length bytes) (tokens_of bytes) 0 _ f (lex-within bytes 0 (length bytes) false (omega arith)) e

pub answer-within : (names : List (List ℕ)) (Ss : List (List Shape)) (bytes : List ℕ) (n : ℕ) (f : ArgsFault) → AnswersReading (call_arguments names Ss bytes) n (Err f) → offset_in f ≤ length bytes
answer-within names Ss bytes n faults.Memory h = omega arith
answer-within names Ss bytes n (faults.Syntax o) h = refusal-within names Ss bytes (faults.Syntax o) h
answer-within names Ss bytes n (faults.Wrong o) h = refusal-within names Ss bytes (faults.Wrong o) h
answer-within names Ss bytes n faults.NameBytes h = omega arith
answer-within names Ss bytes n faults.Nesting h = omega arith
