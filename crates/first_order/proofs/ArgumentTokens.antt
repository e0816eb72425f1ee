-- How the reading of arguments goes on at the next token.
use Rattle.std.proofs.Common.{◌≡◌, ◌∙◌, ℕ, List, [], ◌∷◌, ◌++◌, length, Option, Some, None, Ok, Err, refl, sym, ap, subst}
use Rattle.sexp_reader.specs.Text.{Text}
use Rattle.sexp_reader.specs.Lex.{Spanned, answer, answer_at, rest, nesting_after, nesting_after_text}
use Rattle.sexp_reader.specs.Stream.{source, stream, depth, text_at, Gave}
use Rattle.sexp_reader.specs.declared.Token.{Token}
use Rattle.sexp_reader.specs.declared.Tokens.{Tokens}
use Rattle.sexp_reader.specs.declared.TokenFault.{TokenFault}
use Rattle.first_order.specs.declared.faults.ArgsFault.{ArgsFault}
use Rattle.first_order.specs.declared.faults.ArgsFault.TheVariants as faults
use Rattle.first_order.specs.Awaited.{Awaited, TakesToken, ArgumentReading, ArgumentsAre, ArgumentsFail, with_nodes, token_fault, answered, taken, taking, at_token, at_end, reading_of}
use Rattle.first_order.specs.declared.given.Unfit.{Unfit}
use Rattle.first_order.specs.declared.given.Unfit.TheVariants as unfit
use Rattle.first_order.specs.Nexts.{IsUnfit, unfit_fault, reading_on, GoesWith, GetsToken, GetsSome, PassesFirst}
use Rattle.sexp_reader.proofs.Steps.{shorter}

pub nothing_left : (names : List (List ℕ)) (len d : ℕ) (ss : List Spanned) (xs : List Awaited) → ss ≡ [] → reading_of names len ss d xs ≡ at_end len xs
unfolding reading_of
nothing_left names len d ss xs e = ap (λ us. reading_of names len us d xs) e

pub token_read : (names : List (List ℕ)) (len d start : ℕ) (text : Text) (o : Option Token) (ss more : List Spanned) (xs : List Awaited) → ss ≡ record { start = start; text = text } ∷ more → Ok o ≡ answer d ss →
    reading_of names len ss d xs ≡ at_token names xs start text (λ ys. reading_of names len more (nesting_after d ss) ys)
unfolding reading_of
token_read names len d start text o ss more xs e a =
    let given : Ok o ≡ answer_at d start text = subst (λ us. Ok o ≡ answer d us) e a in
    ap (λ us. reading_of names len us d xs) e
    ∙ ap (λ r. answered r (at_token names xs start text (λ ys. reading_of names len more (nesting_after_text d text) ys))) (sym given)
    ∙ ap (λ us. at_token names xs start text (λ ys. reading_of names len more (nesting_after d us) ys)) (sym e)

pub token_refused : (names : List (List ℕ)) (len d : ℕ) (f : TokenFault) (ss : List Spanned) (xs : List Awaited) → Err f ≡ answer d ss → reading_of names len ss d xs ≡ ArgumentsFail (token_fault f)
unfolding reading_of
token_refused names len d f [] xs e = absurd cc
token_refused names len d f (s ∷ ss) xs e = ap (λ r. answered r (at_token names xs s.start s.text (λ ys. reading_of names len ss (nesting_after_text d s.text) ys))) (sym e)

goes_on : (names : List (List ℕ)) (t : Token) (old new : Tokens) (xs : List Awaited) →
    reading_on names old xs ≡ at_token names xs t.start (text_at (source old) t) (λ ys. reading_on names new ys) → GoesWith names (Ok (Some t)) old new xs
goes_on names t old new [] e = e
goes_on names t old new (x ∷ xs) e = e

pub gets : (o : Option Token) (old new : Tokens) → Ok o ≡ answer (depth old) (stream old) → (stream new ≡ rest (stream old)) × (depth new ≡ nesting_after (depth old) (stream old)) →
    Gave (Ok o) (source old) (stream old) (stream new) → source new ≡ source old → GetsToken (Ok o) old new
gets None old new a ok gave same = record { same = same; shorter = tt; within = tt; goes = λ names xs. nothing_left names (length (source old)) (depth old) (stream old) xs gave.0 }
gets (Some t) old new a ok gave same = record {
  same = same;
  shorter = shorter _ (stream old) (stream new) gave.0;
  within = (gave.1, gave.2);
  goes = λ names xs. goes_on names t old new xs
      (token_read names (length (source old)) (depth old) t.start (text_at (source old) t) (Some t) (stream old) (stream new) xs gave.0 a
      ∙ sym (λ i. at_token names xs t.start (text_at (source old) t) (λ ys. reading_of names (length (same i)) (stream new) (ok.1 i) ys)));
}

pub fault : (f : TokenFault) (old new : Tokens) → Err f ≡ answer (depth old) (stream old) → source new ≡ source old → GetsToken (Err (token_fault f)) old new
fault f old new a same = record { same = same; shorter = tt; within = tt; goes = λ names xs. token_refused names (length (source old)) (depth old) f (stream old) xs a }

pub some : (t : Token) (old new : Tokens) → GetsToken (Ok (Some t)) old new → GetsSome (Ok t) old new
some t old new h = record { same = h.same; shorter = h.shorter; within = h.within; goes = λ names x xs. h.goes names (x ∷ xs) }

pub none : (old new : Tokens) (n : ℕ) → n ≡ length (source new) → GetsToken (Ok None) old new → GetsSome (Err (faults.Syntax n)) old new
none old new n e h = record { same = h.same; shorter = tt; within = tt; goes = λ names x xs. h.goes names (x ∷ xs) ∙ ap (λ k. ArgumentsFail (faults.Syntax k)) (sym (e ∙ ap length h.same)) }

pub failed : (f : ArgsFault) (old new : Tokens) → GetsToken (Err f) old new → GetsSome (Err f) old new
failed f old new h = record { same = h.same; shorter = tt; within = tt; goes = λ names x xs. h.goes names (x ∷ xs) }

-- ---- a token where something is to come

with_nothing : (r : ArgumentReading) → with_nodes [] r ≡ r
with_nothing (ArgumentsAre ds) = refl
with_nothing (ArgumentsFail f) = refl

pub passed : (names : List (List ℕ)) (t : Token) (old new : Tokens) (x : Awaited) → GetsSome (Ok t) old new → taking names x (text_at (source old) t) ≡ TakesToken [] [] →
    PassesFirst {X = Unit {0}} names (Ok tt) old new x (λ y r. r)
passed names t old new x h e = record {
  same = h.same;
  goes = λ xs. h.goes names x xs ∙ ap (λ k. taken k t.start (λ ys. reading_on names new (ys ++ xs))) e ∙ with_nothing (reading_on names new xs);
}

pub not_taken : {X : Type 0} (names : List (List ℕ)) (t : Token) (old new : Tokens) (x : Awaited) (u : Unfit) (f : X → ArgumentReading → ArgumentReading) → GetsSome (Ok t) old new → IsUnfit (taking names x (text_at (source old) t)) u →
    PassesFirst {X = X} names (Err (unfit_fault u t.start)) old new x f
not_taken names t old new x unfit.Form f h e = record { same = h.same; goes = λ xs. h.goes names x xs ∙ ap (λ k. taken k t.start (λ ys. reading_on names new (ys ++ xs))) e }
not_taken names t old new x unfit.Place f h e = record { same = h.same; goes = λ xs. h.goes names x xs ∙ ap (λ k. taken k t.start (λ ys. reading_on names new (ys ++ xs))) e }
not_taken names t old new x unfit.Memory f h e = record { same = h.same; goes = λ xs. tt }
