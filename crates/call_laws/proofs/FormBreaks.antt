-- Where reading arguments along their types answers `Syntax`, no text of their form goes on.
use Rattle.std.proofs.Common.{◌≡◌, ◌∙◌, ℕ, zero, suc, ◌+◌, ◌-◌, ◌<◌, List, [], ◌∷◌, ◌++◌, drop, length, Bool, true, false, Option, Some, None, Result, Ok, Err, ◌⊎◌, inl, inr, refl, sym, ap, append_assoc, arith}
use Rattle.std.specs.Prelude.{bytes_eq, nat_le, nat_lt, if◌then◌else◌}
use Rattle.sexp_reader.specs.Text.{Text, Open, Close, Atom, Stray}
use Rattle.sexp_reader.specs.Lex.{Spanned, answer_at, nesting_after_text, tokens_of}
use Rattle.sexp_reader.specs.declared.Token.{Token}
use Rattle.sexp_reader.specs.declared.TokenFault.{TokenFault}
use Rattle.sexp_reader.specs.declared.TokenFault.TheVariants as tokens
use Rattle.dump_grammar.specs.Judge.{texts}
use Rattle.dump_grammar.specs.Keywords.{spelling}
use Rattle.dump_grammar.specs.declared.keyword.Keyword.TheVariants as words
use Rattle.first_order.specs.declared.faults.ArgsFault.{ArgsFault}
use Rattle.first_order.specs.declared.faults.ArgsFault.TheVariants as faults
use Rattle.first_order.specs.declared.given.Turn.{Turn}
use Rattle.first_order.specs.declared.given.Turn.TheVariants.{First, Later}
use Rattle.first_order.specs.declared.shapes.Shape.{Shape}
use Rattle.first_order.specs.ArgumentTexts.{ctor_at}
use Rattle.first_order.specs.Awaited.{Awaited, AwaitsOpen, AwaitsWord, AwaitsItem, AwaitsName, AwaitsClose, items_in, arguments_in, whole_call}
use Rattle.first_order.specs.Awaited.{Taking, BreaksForm, Misplaced, TakesToken, alone, opened, taking, ArgumentReading, ArgumentsAre, ArgumentsFail, with_nodes, token_fault, answered, taken, at_token, reading_of, reading_behind, call_arguments}
use Rattle.calculus_rules.specs.FirstOrder.{Data}
use Rattle.calculus_rules.proofs.Spines.{one_item}
use Rattle.call_laws.specs.ArgumentForm.{BreaksAt, SyntaxIsOfTheForm}
use Rattle.call_laws.proofs.FormStates.{State, AtStart, AtWord, AtItem, AtName, AtEnd, closed, step, steps, steps_on, form_read, unread_breaks, read_goes_on}

-- ---- what is awaited, whatever the types are

abbrev brackets : List Awaited → ℕ
brackets [] = 0
brackets (AwaitsClose t ∷ xs) = suc (brackets xs)
brackets (x ∷ xs) = brackets xs

abbrev state : List Awaited → State
state [] = AtEnd
state (AwaitsOpen ∷ xs) = AtStart
state (AwaitsWord ∷ xs) = AtWord
state (AwaitsItem t S i ∷ xs) = AtItem t (brackets xs - 1)
state (AwaitsName S i ∷ xs) = AtName (brackets xs - 1)
state (AwaitsClose t ∷ xs) = AtItem t (brackets xs)

-- what may be awaited behind a bracket that closes, and behind an item
abbrev mutual
  BehindClose : List Awaited → Type 0
  BehindClose [] = Unit {0}
  BehindClose (AwaitsItem Later S i ∷ xs) = BehindItem xs
  BehindClose (AwaitsClose Later ∷ xs) = BehindClose xs
  BehindClose _ = ⊥

  BehindItem : List Awaited → Type 0
  BehindItem (AwaitsItem Later S i ∷ xs) = BehindItem xs
  BehindItem (AwaitsClose Later ∷ xs) = BehindClose xs
  BehindItem _ = ⊥

abbrev Sound : List Awaited → Type 0
Sound [] = Unit {0}
Sound (AwaitsOpen ∷ xs) = (state xs ≡ AtWord) × Sound xs
Sound (AwaitsWord ∷ xs) = (state xs ≡ AtItem First 0) × Sound xs
Sound (AwaitsItem t S i ∷ xs) = BehindItem xs
Sound (AwaitsName S i ∷ xs) = BehindItem xs
Sound (AwaitsClose t ∷ xs) = BehindClose xs

weaker : (xs : List Awaited) → BehindItem xs → BehindClose xs
weaker (AwaitsItem Later S i ∷ xs) h = h
weaker (AwaitsClose Later ∷ xs) h = h
weaker _ h = absurd h

some_brackets : (xs : List Awaited) → BehindItem xs → 0 < brackets xs
some_brackets (AwaitsItem Later S i ∷ xs) h = some_brackets xs h
some_brackets (AwaitsClose Later ∷ xs) h = omega arith
some_brackets _ h = absurd h

sound_close : (xs : List Awaited) → BehindClose xs → Sound xs
sound_close [] h = tt
sound_close (AwaitsItem Later S i ∷ xs) h = h
sound_close (AwaitsClose Later ∷ xs) h = h
sound_close _ h = absurd h

closed_some : (n : ℕ) → 0 < n → AtItem Later (n - 1) ≡ closed n
closed_some zero h = absurd (omega (arith, h))
closed_some (suc n) h = ap (λ m. AtItem Later m) (omega arith)

state_close : (xs : List Awaited) → BehindClose xs → state xs ≡ closed (brackets xs)
state_close [] h = refl
state_close (AwaitsItem Later S i ∷ xs) h = closed_some (brackets xs) (some_brackets xs h)
state_close (AwaitsClose Later ∷ xs) h = refl
state_close _ h = absurd h

state_item : (xs : List Awaited) → BehindItem xs → state xs ≡ AtItem Later (brackets xs - 1)
state_item (AwaitsItem Later S i ∷ xs) h = refl
state_item (AwaitsClose Later ∷ xs) h = ap (λ n. AtItem Later n) (omega arith)
state_item _ h = absurd h

-- the items between two brackets

items_brackets : (t : Turn) (S : List Shape) (js : List ℕ) (xs : List Awaited) → brackets (items_in t S js ++ xs) ≡ suc (brackets xs)
items_brackets t S [] xs = refl
items_brackets t S (j ∷ js) xs = items_brackets Later S js xs

items_behind : (S : List Shape) (js : List ℕ) (xs : List Awaited) → BehindClose xs → BehindItem (items_in Later S js ++ xs)
items_behind S [] xs h = h
items_behind S (j ∷ js) xs h = items_behind S js xs h

items_sound : (S : List Shape) (js : List ℕ) (xs : List Awaited) → BehindClose xs → Sound (items_in First S js ++ xs)
items_sound S [] xs h = h
items_sound S (j ∷ js) xs h = items_behind S js xs h

items_state : (S : List Shape) (js : List ℕ) (xs : List Awaited) → state (items_in First S js ++ xs) ≡ AtItem First (brackets xs)
items_state S [] xs = refl
items_state S (j ∷ js) xs = ap (λ n. AtItem First n) (omega (arith, items_brackets Later S js xs))

-- the arguments

arguments_brackets : (t : Turn) (Ss : List (List Shape)) → brackets (arguments_in t Ss) ≡ 1
arguments_brackets t [] = refl
arguments_brackets t (S ∷ Ss) = arguments_brackets Later Ss

arguments_behind : (Ss : List (List Shape)) → BehindItem (arguments_in Later Ss)
arguments_behind [] = tt
arguments_behind (S ∷ Ss) = arguments_behind Ss

arguments_sound : (Ss : List (List Shape)) → Sound (arguments_in First Ss)
arguments_sound [] = tt
arguments_sound (S ∷ Ss) = arguments_behind Ss

arguments_state : (Ss : List (List Shape)) → state (arguments_in First Ss) ≡ AtItem First 0
arguments_state [] = refl
arguments_state (S ∷ Ss) = ap (λ n. AtItem First n) (omega (arith, arguments_brackets Later Ss))

-- ---- a token

abbrev Follows : Taking → List Awaited → Option State → Type 0
Follows BreaksForm xs o = o ≡ None
Follows Misplaced xs o = Unit {0}
Follows (TakesToken ys ms) xs o = Sound (ys ++ xs) × (o ≡ Some (state (ys ++ xs)))

word_follows : (b : Bool) (xs : List Awaited) → Sound (AwaitsWord ∷ xs) → Follows (if b then TakesToken [] [] else BreaksForm) xs (if b then Some (AtItem First 0) else None)
word_follows true xs h = (h.1, ap (λ q. Some q) (sym h.0))
word_follows false xs h = refl

alone_follows : (o : Option (ℕ × List ℕ)) (xs : List Awaited) → BehindItem xs → Follows (alone o) xs (Some (AtItem Later (brackets xs - 1)))
alone_follows None xs h = tt
alone_follows (Some (c, [])) xs h = (sound_close xs (weaker xs h), ap (λ q. Some q) (sym (state_item xs h)))
alone_follows (Some (c, j ∷ js)) xs h = tt

opened_follows : (S : List Shape) (o : Option (ℕ × List ℕ)) (xs : List Awaited) → BehindItem xs → Follows (opened S o) xs (Some (AtItem First (suc (brackets xs - 1))))
opened_follows S None xs h = tt
opened_follows S (Some k) xs h =
    let some = some_brackets xs h in
    let same : suc (brackets xs - 1) ≡ brackets xs = omega (arith, some) in
    (items_sound S k.1 xs (weaker xs h), ap (λ n. Some (AtItem First n)) same ∙ ap (λ q. Some q) (sym (items_state S k.1 xs)))

follows : (names : List (List ℕ)) (x : Awaited) (t : Text) (xs : List Awaited) → Sound (x ∷ xs) → Follows (taking names x t) xs (step (state (x ∷ xs)) t)
follows names AwaitsOpen Open xs h = (h.1, ap (λ q. Some q) (sym h.0))
follows names AwaitsOpen Close xs h = refl
follows names AwaitsOpen (Atom a) xs h = refl
follows names AwaitsOpen Stray xs h = refl
follows names AwaitsWord (Atom a) xs h = word_follows (bytes_eq a (spelling words.Args)) xs h
follows names AwaitsWord Open xs h = refl
follows names AwaitsWord Close xs h = refl
follows names AwaitsWord Stray xs h = refl
follows names (AwaitsItem t S i) Open xs h = (h, refl)
follows names (AwaitsItem t S i) (Atom a) xs h = alone_follows (ctor_at names S i a) xs h
follows names (AwaitsItem First S i) Close xs h = refl
follows names (AwaitsItem Later S i) Close xs h = tt
follows names (AwaitsItem First S i) Stray xs h = refl
follows names (AwaitsItem Later S i) Stray xs h = refl
follows names (AwaitsName S i) (Atom a) xs h = opened_follows S (ctor_at names S i a) xs h
follows names (AwaitsName S i) Open xs h = refl
follows names (AwaitsName S i) Close xs h = refl
follows names (AwaitsName S i) Stray xs h = refl
follows names (AwaitsClose First) Close xs h = refl
follows names (AwaitsClose Later) Close xs h = (sound_close xs h, ap (λ q. Some q) (sym (state_close xs h)))
follows names (AwaitsClose t) Open xs h = tt
follows names (AwaitsClose t) (Atom a) xs h = tt
follows names (AwaitsClose First) Stray xs h = refl
follows names (AwaitsClose Later) Stray xs h = refl

nothing_behind : (t : Text) → step AtEnd t ≡ None
nothing_behind Open = refl
nothing_behind Close = refl
nothing_behind (Atom a) = refl
nothing_behind Stray = refl

stray_breaks : (q : State) → step q Stray ≡ None
stray_breaks AtStart = refl
stray_breaks AtWord = refl
stray_breaks (AtItem First d) = refl
stray_breaks (AtItem Later d) = refl
stray_breaks (AtName d) = refl
stray_breaks AtEnd = refl

awaits_more : (x : Awaited) (xs : List Awaited) → state (x ∷ xs) ≡ AtEnd → ⊥
awaits_more AwaitsOpen xs e = cc
awaits_more AwaitsWord xs e = cc
awaits_more (AwaitsItem t S i) xs e = cc
awaits_more (AwaitsName S i) xs e = cc
awaits_more (AwaitsClose t) xs e = cc

-- ---- the whole text

abbrev syntax : ℕ → ArgumentReading
syntax o = ArgumentsFail (faults.Syntax o)

same_place : (o p : ℕ) → ArgumentsFail (faults.Syntax o) ≡ ArgumentsFail (faults.Syntax p) → p ≡ o
same_place o p e = sym (inside (faults.Syntax o) (faults.Syntax p) e)
  where
    place : ArgsFault → ℕ
    place (faults.Syntax o) = o
    place f = 0

    fault : ArgumentReading → ℕ
    fault (ArgumentsFail f) = place f
    fault (ArgumentsAre ds) = 0

    inside : (f g : ArgsFault) → ArgumentsFail f ≡ ArgumentsFail g → place f ≡ place g
    inside f g e = ap fault e

-- the tokenizer's refusal is that of a byte of no token

chosen_stray : (b : Bool) (t : Token) (f : TokenFault) (o : ℕ) → (if b then Ok (Some t) else Err f) ≡ Err (tokens.Stray o) → f ≡ tokens.Stray o
chosen_stray true t f o e = absurd cc
chosen_stray false t f o e = cc

stray_is : (d n : ℕ) (t : Text) (o : ℕ) → answer_at d n t ≡ Err (tokens.Stray o) → (t ≡ Stray) × (o ≡ n)
stray_is d n Open o e = absurd (let f = chosen_stray (nat_lt d 1000) _ (tokens.Nesting n) o e in cc)
stray_is d n Close o e = absurd cc
stray_is d n (Atom a) o e = absurd (let f = chosen_stray (nat_le (length a) 255) _ (tokens.NameBytes n) o e in cc)
stray_is d n Stray o e = (refl, (let f : tokens.Stray n ≡ tokens.Stray o = cc in sym (place f)))
  where
    offset : TokenFault → ℕ
    offset (tokens.Stray o) = o
    offset f = 0

    place : tokens.Stray n ≡ tokens.Stray o → n ≡ o
    place f = ap offset f

fault_stray : (f : TokenFault) (o : ℕ) → token_fault f ≡ faults.Syntax o → f ≡ tokens.Stray o
fault_stray (tokens.Stray p) o e = ap (λ n. tokens.Stray n) (ap place e)
  where
    place : ArgsFault → ℕ
    place (faults.Syntax o) = o
    place f = 0
fault_stray (tokens.NameBytes p) o e = absurd cc
fault_stray (tokens.Nesting p) o e = absurd cc

answered_or : (r : Result (Option Token) TokenFault) (x : ArgumentReading) (o : ℕ) → answered r x ≡ syntax o → ((f : TokenFault) × (r ≡ Err f) × (token_fault f ≡ faults.Syntax o)) ⊎ (x ≡ syntax o)
answered_or (Ok a) x o e = inr e
answered_or (Err f) x o e = inl (f, refl, cc)

rest_fails : (ms : Data) (r : ArgumentReading) (o : ℕ) → with_nodes ms r ≡ syntax o → r ≡ syntax o
rest_fails ms (ArgumentsAre es) o e = absurd cc
rest_fails ms (ArgumentsFail f) o e = e

texts_behind : (pre : List Spanned) (s : Spanned) → texts (pre ++ s ∷ []) ≡ texts pre ++ s.text ∷ []
texts_behind [] s = refl
texts_behind (p ∷ pre) s = ap (λ us. p.text ∷ us) (texts_behind pre s)

module _ (names : List (List ℕ)) (len o : ℕ) (all : List Spanned) where
  broken : (pre ss : List Spanned) (s : Spanned) (q : State) → all ≡ pre ++ s ∷ ss → steps (Some AtStart) (texts pre) ≡ Some q → step q s.text ≡ None → o ≡ s.start → BreaksAt len all o
  broken pre ss s q are read none is = record {
    before = pre;
    after = s ∷ ss;
    are = are;
    begins = read_goes_on (texts pre) q read;
    breaks = (
      is,
      unread_breaks (texts pre ++ s.text ∷ []) (steps_on (Some AtStart) (texts pre) (s.text ∷ []) ∙ ap (λ q. steps q (s.text ∷ [])) read ∙ ap (λ q. steps q []) none),
    );
  }

  -- what comes of the tokens behind
  abbrev Onward : State → Spanned → (List Awaited → ArgumentReading) → Type 0
  Onward q s go = (ys : List Awaited) → Sound ys → step q s.text ≡ Some (state ys) → go ys ≡ syntax o → BreaksAt len all o

  on_taking : (k : Taking) (pre ss : List Spanned) (s : Spanned) (q : State) (xs : List Awaited) (go : List Awaited → ArgumentReading) → all ≡ pre ++ s ∷ ss → steps (Some AtStart) (texts pre) ≡ Some q →
      Follows k xs (step q s.text) → taken k s.start (λ ys. go (ys ++ xs)) ≡ syntax o → Onward q s go → BreaksAt len all o
  on_taking BreaksForm pre ss s q xs go are read f e next = broken pre ss s q are read f (same_place s.start o e)
  on_taking Misplaced pre ss s q xs go are read f e next = absurd cc
  on_taking (TakesToken ys ms) pre ss s q xs go are read f e next = next (ys ++ xs) f.0 f.1 (rest_fails ms (go (ys ++ xs)) o e)

  at_next : (xs : List Awaited) (pre ss : List Spanned) (s : Spanned) (go : List Awaited → ArgumentReading) → all ≡ pre ++ s ∷ ss → steps (Some AtStart) (texts pre) ≡ Some (state xs) → Sound xs →
      at_token names xs s.start s.text go ≡ syntax o → Onward (state xs) s go → BreaksAt len all o
  at_next [] pre ss s go are read h e next = broken pre ss s AtEnd are read (nothing_behind s.text) (same_place s.start o e)
  at_next (x ∷ xs) pre ss s go are read h e next = on_taking (taking names x s.text) pre ss s (state (x ∷ xs)) xs go are read (follows names x s.text xs h) e next

  found : (pre ss : List Spanned) (d : ℕ) (xs : List Awaited) → all ≡ pre ++ ss → Sound xs → steps (Some AtStart) (texts pre) ≡ Some (state xs) → reading_of names len ss d xs ≡ syntax o → BreaksAt len all o
  unfolding reading_of
  found pre [] d [] are h read e = absurd cc
  found pre [] d (x ∷ xs) are h read e = record {
    before = pre;
    after = [];
    are = are;
    begins = read_goes_on (texts pre) (state (x ∷ xs)) read;
    breaks = (same_place len o e, λ form. awaits_more x xs (one_item (sym read ∙ form_read (texts pre) form)));
  }
  found pre (s ∷ ss) d xs are h read e =
      elim (answered_or (answer_at d s.start s.text) (at_token names xs s.start s.text (λ ys. reading_of names len ss (nesting_after_text d s.text) ys)) o e) [
        | inl x ↦ (let stray = stray_is d s.start s.text o (x.1 ∙ ap (λ f. Err f) (fault_stray x.0 o x.2)) in broken pre ss s (state xs) are read (ap (step (state xs)) stray.0 ∙ stray_breaks (state xs)) stray.1)
        | inr k ↦
            at_next xs pre ss s (λ ys. reading_of names len ss (nesting_after_text d s.text) ys) are read h k
            (λ ys sound goes fails.
            found (pre ++ s ∷ []) ss (nesting_after_text d s.text) ys (are ∙ sym (append_assoc pre (s ∷ []) ss)) sound
            (ap (steps (Some AtStart)) (texts_behind pre s) ∙ steps_on (Some AtStart) (texts pre) (s.text ∷ []) ∙ ap (λ q. steps q (s.text ∷ [])) read ∙ ap (λ q. steps q []) goes) fails)
      ]

behind_syntax : (n o : ℕ) (r : ArgumentReading) → reading_behind n r ≡ syntax o → (p : ℕ) × (r ≡ syntax p) × (o ≡ n + p)
behind_syntax n o (ArgumentsAre ds) e = absurd cc
behind_syntax n o (ArgumentsFail (faults.Syntax p)) e = (p, refl, same_place (n + p) o e)
behind_syntax n o (ArgumentsFail (faults.Wrong p)) e = absurd cc
behind_syntax n o (ArgumentsFail faults.Nesting) e = absurd cc
behind_syntax n o (ArgumentsFail faults.NameBytes) e = absurd cc
behind_syntax n o (ArgumentsFail faults.Memory) e = absurd cc

pub syntax_of_form : SyntaxIsOfTheForm
syntax_of_form names Ss bytes from o e =
    let behind = drop from bytes in
    let (p, is, place) = behind_syntax from o (call_arguments names Ss behind) e in
    (p, place, found names (length behind) p (tokens_of behind) [] (tokens_of behind) 0 (whole_call Ss) refl (refl, (arguments_state Ss, arguments_sound Ss)) refl is)
