-- Where a text of the form of arguments goes on, read token by token.
use Rattle.std.proofs.Common.{◌≡◌, ◌∙◌, ◌⊎◌, ℕ, zero, suc, List, [], ◌∷◌, ◌++◌, Bool, true, false, Option, Some, None, refl, sym, ap, subst, inl, inr, append_assoc}
use Rattle.std.specs.Prelude.{bytes_eq, if◌then◌else◌}
use Rattle.sexp_reader.specs.Text.{Text, Open, Close, Atom, Stray}
use Rattle.dump_grammar.specs.Keywords.{spelling}
use Rattle.dump_grammar.specs.declared.keyword.Keyword.TheVariants as words
use Rattle.dump_grammar.proofs.Words.{same_bytes}
use Rattle.first_order.specs.declared.given.Turn.{Turn}
use Rattle.first_order.specs.declared.given.Turn.TheVariants.{First, Later}
use Rattle.call_laws.specs.ArgumentForm.{FormItem, name_item, bracket_item, FormItems, last_item, more_items, HasForm, GoesOn}

-- what may come next: the first bracket, the word, an item or the bracket that closes, under so many brackets besides, the name behind a bracket, or nothing
pub data State : Type 0 where
  AtStart : State
  AtWord : State
  AtItem : Turn → ℕ → State
  AtName : ℕ → State
  AtEnd : State

abbrev pub closed : ℕ → State
closed zero = AtEnd
closed (suc d) = AtItem Later d

abbrev pub step : State → Text → Option State
step AtStart Open = Some AtWord
step AtWord (Atom a) = if bytes_eq a (spelling words.Args) then Some (AtItem First 0) else None
step (AtItem t d) Open = Some (AtName d)
step (AtItem t d) (Atom a) = Some (AtItem Later d)
step (AtItem Later d) Close = Some (closed d)
step (AtName d) (Atom a) = Some (AtItem First (suc d))
step _ _ = None

abbrev pub steps : Option State → List Text → Option State
steps None ts = None
steps (Some q) [] = Some q
steps (Some q) (t ∷ ts) = steps (step q t) ts

pub steps_on : (q : Option State) (ts us : List Text) → steps q (ts ++ us) ≡ steps (steps q ts) us
steps_on None ts [] = refl
steps_on None ts (u ∷ us) = refl
steps_on (Some q) [] us = refl
steps_on (Some q) (t ∷ ts) us = steps_on (step q t) ts us

-- ---- a text of the form is read to its end

mutual
  item_read : (t : Turn) (d : ℕ) (ts us : List Text) → FormItem ts → steps (Some (AtItem t d)) (ts ++ us) ≡ steps (Some (AtItem Later d)) us
  item_read t d _ us name_item = refl
  item_read t d _ us (bracket_item {a = a} {ts = ts} h) =
      ap (λ vs. steps (Some (AtItem First (suc d))) vs) (append_assoc ts (Close ∷ []) us) ∙ items_read First (suc d) ts (Close ∷ us) h

  items_read : (t : Turn) (d : ℕ) (ts us : List Text) → FormItems ts → steps (Some (AtItem t d)) (ts ++ us) ≡ steps (Some (AtItem Later d)) us
  items_read t d ts us (last_item h) = item_read t d ts us h
  items_read t d _ us (more_items {ts = ts} {us = vs} h hs) =
      ap (λ ws. steps (Some (AtItem t d)) ws) (append_assoc ts vs us) ∙ item_read t d ts (vs ++ us) h ∙ items_read Later d vs us hs

pub form_read : (ts : List Text) → HasForm ts → steps (Some AtStart) ts ≡ Some AtEnd
unfolding spelling
form_read ts h = ap (steps (Some AtStart)) h.is ∙ items_read First 0 h.items (Close ∷ []) h.are

-- so no text of the form begins with what can't be read
pub unread_breaks : (ts : List Text) → steps (Some AtStart) ts ≡ None → GoesOn ts → ⊥
unread_breaks ts e (us, h) = let whole = sym (form_read (ts ++ us) h) ∙ steps_on (Some AtStart) ts us ∙ ap (λ q. steps q us) e in absurd cc

-- ---- what is read goes on to a text of the form

-- what may stand behind an item, and where one must come, before the bracket that closes and what may stand behind that
abbrev Items : (List Text → Type 0) → List Text → Type 0
Items C us = (xs : List Text) × (vs : List Text) × (us ≡ xs ++ Close ∷ vs) × FormItems xs × C vs

abbrev BehindItem : (List Text → Type 0) → List Text → Type 0
BehindItem C us = ((vs : List Text) × (us ≡ Close ∷ vs) × C vs) ⊎ Items C us

-- behind the bracket that closes, under so many others
abbrev Closed : ℕ → List Text → Type 0
Closed zero vs = vs ≡ []
Closed (suc d) vs = BehindItem (Closed d) vs

abbrev Fits : State → List Text → Type 0
Fits AtStart us = HasForm us
Fits AtWord us = HasForm (Open ∷ us)
Fits (AtItem First d) us = Items (Closed d) us
Fits (AtItem Later d) us = BehindItem (Closed d) us
Fits (AtName d) us = (a : List ℕ) × (vs : List Text) × (us ≡ Atom a ∷ vs) × Items (Closed (suc d)) vs
Fits AtEnd us = us ≡ []

abbrev FitsSome : Option State → List Text → Type 0
FitsSome None us = ⊥
FitsSome (Some q) us = Fits q us

item_before : (C : List Text → Type 0) (ts us : List Text) → FormItem ts → BehindItem C us → Items C (ts ++ us)
item_before C ts us h (inl (vs, e, c)) = (ts, vs, ap (λ ws. ts ++ ws) e, last_item h, c)
item_before C ts us h (inr (xs, vs, e, k, c)) = (ts ++ xs, vs, ap (λ ws. ts ++ ws) e ∙ sym (append_assoc ts xs (Close ∷ vs)), more_items h k, c)

as_item : (t : Turn) (d : ℕ) (us : List Text) → Items (Closed d) us → Fits (AtItem t d) us
as_item First d us h = h
as_item Later d us h = inr h

closed_fits : (d : ℕ) (us : List Text) → Fits (closed d) us → Closed d us
closed_fits zero us f = f
closed_fits (suc d) us f = f

word_back : (a : List ℕ) (us : List Text) (b : Bool) → bytes_eq a (spelling words.Args) ≡ b → FitsSome (if b then Some (AtItem First 0) else None) us → HasForm (Open ∷ Atom a ∷ us)
word_back a us true e (xs, vs, p, h, c) = record {
  items = xs;
  are = h;
  is = ap (λ w. Open ∷ Atom w ∷ us) (same_bytes a (spelling words.Args) e) ∙ ap (λ ws. Open ∷ Atom (spelling words.Args) ∷ ws) (p ∙ ap (λ ws. xs ++ Close ∷ ws) c);
}
word_back a us false e f = absurd f

bracket_back : (t : Turn) (d : ℕ) (us : List Text) → Fits (AtName d) us → Fits (AtItem t d) (Open ∷ us)
bracket_back t d us (a, vs, p, (xs, ws, q, h, c)) =
    let item = Open ∷ Atom a ∷ (xs ++ Close ∷ []) in
    let same : item ++ ws ≡ Open ∷ us = ap (λ zs. Open ∷ Atom a ∷ zs) (append_assoc xs (Close ∷ []) ws ∙ sym q) ∙ ap (λ zs. Open ∷ zs) (sym p) in
    subst (Fits (AtItem t d)) same (as_item t d (item ++ ws) (item_before (Closed d) item ws (bracket_item h) c))

back : (q : State) (t : Text) (us : List Text) → FitsSome (step q t) us → Fits q (t ∷ us)
back AtStart Open us f = f
back AtStart Close us f = absurd f
back AtStart (Atom a) us f = absurd f
back AtStart Stray us f = absurd f
back AtWord (Atom a) us f = word_back a us (bytes_eq a (spelling words.Args)) refl f
back AtWord Open us f = absurd f
back AtWord Close us f = absurd f
back AtWord Stray us f = absurd f
back (AtItem t d) Open us f = bracket_back t d us f
back (AtItem t d) (Atom a) us f = as_item t d (Atom a ∷ us) (item_before (Closed d) (Atom a ∷ []) us name_item f)
back (AtItem Later d) Close us f = inl (us, refl, closed_fits d us f)
back (AtItem First d) Close us f = absurd f
back (AtItem First d) Stray us f = absurd f
back (AtItem Later d) Stray us f = absurd f
back (AtName d) (Atom a) us f = (a, us, refl, f)
back (AtName d) Open us f = absurd f
back (AtName d) Close us f = absurd f
back (AtName d) Stray us f = absurd f
back AtEnd Open us f = absurd f
back AtEnd Close us f = absurd f
back AtEnd (Atom a) us f = absurd f
back AtEnd Stray us f = absurd f

back_all : (o : Option State) (ts us : List Text) → FitsSome (steps o ts) us → FitsSome o (ts ++ us)
back_all None ts us f = absurd f
back_all (Some q) [] us f = f
back_all (Some q) (t ∷ ts) us f = back q t (ts ++ us) (back_all (step q t) ts us f)

closes : (d : ℕ) → (vs : List Text) × Closed d vs
closes zero = ([], refl)
closes (suc d) = let (vs, c) = closes d in (Close ∷ vs, inl (vs, refl, c))

name_closes : (d : ℕ) → (us : List Text) × Items (Closed d) us
name_closes d = let (vs, c) = closes d in (Atom [] ∷ Close ∷ vs, (Atom [] ∷ [], vs, refl, last_item name_item, c))

some_rest : (q : State) → (us : List Text) × Fits q us
some_rest AtStart = (Open ∷ Atom (spelling words.Args) ∷ Atom [] ∷ Close ∷ [], record { items = Atom [] ∷ []; are = last_item name_item; is = refl })
some_rest AtWord = (Atom (spelling words.Args) ∷ Atom [] ∷ Close ∷ [], record { items = Atom [] ∷ []; are = last_item name_item; is = refl })
some_rest (AtItem First d) = name_closes d
some_rest (AtItem Later d) = let (vs, c) = closes d in (Close ∷ vs, inl (vs, refl, c))
some_rest (AtName d) = let (vs, h) = name_closes (suc d) in (Atom [] ∷ vs, ([], vs, refl, h))
some_rest AtEnd = ([], refl)

pub read_goes_on : (ts : List Text) (q : State) → steps (Some AtStart) ts ≡ Some q → GoesOn ts
read_goes_on ts q e = let (us, f) = some_rest q in (us, back_all (Some AtStart) ts us (subst (λ o. FitsSome o us) (sym e) f))
