-- What is to come within one argument, as the reader keeps it, and what it does with a token.
use Rattle.std.specs.Prelude.{◌≡◌, ℕ, ◌+◌, ◌<◌, ◌≤◌, List, [], ◌∷◌, ◌++◌, length, map, reverse, Option, Some, None, Result, Ok, Err, IfOk, IfSome}
use Rattle.sexp_reader.specs.Stream.{source, stream, depth, text_at}
use Rattle.sexp_reader.specs.declared.Token.{Token}
use Rattle.sexp_reader.specs.declared.Tokens.{Tokens}
use Rattle.calculus_rules.specs.FirstOrder.{Data}
use Rattle.first_order.specs.declared.shapes.Shape.{Shape}
use Rattle.first_order.specs.declared.faults.ArgsFault.{ArgsFault}
use Rattle.first_order.specs.declared.faults.ArgsFault.TheVariants as faults
use Rattle.first_order.specs.declared.given.Next.{Next}
use Rattle.first_order.specs.declared.given.Next.TheVariants as nexts
use Rattle.first_order.specs.declared.given.Turn.{Turn}
use Rattle.first_order.specs.declared.given.Turn.TheVariants.{Later}
use Rattle.first_order.specs.declared.given.Unfit.{Unfit}
use Rattle.first_order.specs.declared.given.Unfit.TheVariants as unfit
use Rattle.first_order.specs.Awaited.{Awaited, AwaitsItem, AwaitsName, AwaitsClose, Taking, BreaksForm, Misplaced, TakesToken, ArgumentReading, ArgumentsFail, with_nodes, taken, taking, at_end, reading_of}

abbrev pub awaited : List Shape → Next → Awaited
awaited S (nexts.Item t i) = AwaitsItem t S i
awaited S (nexts.Name i) = AwaitsName S i
awaited S (nexts.Close t) = AwaitsClose t

abbrev pub nexts_in : Turn → List ℕ → List Next
nexts_in t [] = nexts.Close t ∷ []
nexts_in t (j ∷ js) = nexts.Item t j ∷ nexts_in Later js

-- how many trees are to come
abbrev pub trees_in : Next → ℕ
trees_in (nexts.Item t i) = 1
trees_in (nexts.Name i) = 1
trees_in (nexts.Close t) = 0

abbrev pub trees : List Next → ℕ
trees [] = 0
trees (x ∷ xs) = trees_in x + trees xs

-- the node that is read, if one is
abbrev pub nodes_in : Option (ℕ × ℕ) → Data
nodes_in None = []
nodes_in (Some d) = d ∷ []

-- a token isn't taken
abbrev pub IsUnfit : Taking → Unfit → Type 0
IsUnfit t unfit.Form = t ≡ BreaksForm
IsUnfit t unfit.Place = t ≡ Misplaced
IsUnfit t unfit.Memory = Unit {0}

-- what is done with a token: what then is to come is put before what waits, whose last is the next
abbrev pub IsTaking : List Shape → Taking → Result (Option (ℕ × ℕ)) Unfit → List Next → List Next → Type 0
IsTaking S t (Ok o) old new = (ys : List Next) × (t ≡ TakesToken (map (awaited S) ys) (nodes_in o)) × (reverse new ≡ ys ++ reverse old)
IsTaking S t (Err u) old new = IsUnfit t u

-- nothing more is to come of it
abbrev pub IsClosing : Taking → Result (Unit {0}) Unfit → Type 0
IsClosing t (Ok x) = t ≡ TakesToken [] []
IsClosing t (Err u) = IsUnfit t u

-- a node takes the place of one tree and asks for one for each of its arguments
abbrev pub KeepsTrees : Next → Option (ℕ × ℕ) → List Next → List Next → Type 0
KeepsTrees x None old new = trees (reverse new) ≡ trees_in x + trees (reverse old)
KeepsTrees x (Some d) old new = (trees_in x ≡ 1) × (trees (reverse new) ≡ d.1 + trees (reverse old))

-- the refusal of a token by its offset
abbrev pub unfit_fault : Unfit → ℕ → ArgsFault
unfit_fault unfit.Form o = faults.Syntax o
unfit_fault unfit.Place o = faults.Wrong o
unfit_fault unfit.Memory o = faults.Memory

abbrev pub offset_in : ArgsFault → ℕ
offset_in (faults.Syntax o) = o
offset_in (faults.Wrong o) = o
offset_in f = 0

-- the reading of the tokens that are still to come
abbrev pub reading_on : (names : List (List ℕ)) → Tokens → List Awaited → ArgumentReading
reading_on names t xs = reading_of names (length (source t)) (stream t) (depth t) xs

-- ---- tokens

abbrev pub GoesWith : (names : List (List ℕ)) → Result (Option Token) ArgsFault → Tokens → Tokens → List Awaited → Type 0
GoesWith names (Ok None) old new xs = reading_on names old xs ≡ at_end (length (source old)) xs
GoesWith names (Ok (Some t)) old new [] = reading_on names old [] ≡ ArgumentsFail (faults.Syntax t.start)
GoesWith names (Ok (Some t)) old new (x ∷ xs) = reading_on names old (x ∷ xs) ≡ taken (taking names x (text_at (source old) t)) t.start (λ ys. reading_on names new (ys ++ xs))
GoesWith names (Err f) old new xs = reading_on names old xs ≡ ArgumentsFail f

-- the next token, if there is one
pub record GetsToken (result : Result (Option Token) ArgsFault) (old new : Tokens) : Type 0 where
  pub same : source new ≡ source old
  pub shorter : IfOk result (λ o. IfSome o (λ t. length (stream new) < length (stream old)))
  pub within : IfOk result (λ o. IfSome o (λ t. (t.start ≤ t.end) × (t.end ≤ length (source old))))
  pub goes : (names : List (List ℕ)) (xs : List Awaited) → GoesWith names result old new xs

-- a token, where something is to come
abbrev pub some_token : Result Token ArgsFault → Result (Option Token) ArgsFault
some_token (Ok t) = Ok (Some t)
some_token (Err f) = Err f

pub record GetsSome (result : Result Token ArgsFault) (old new : Tokens) : Type 0 where
  pub same : source new ≡ source old
  pub shorter : IfOk result (λ t. length (stream new) < length (stream old))
  pub within : IfOk result (λ t. (t.start ≤ t.end) × (t.end ≤ length (source old)))
  pub goes : (names : List (List ℕ)) (x : Awaited) (xs : List Awaited) → GoesWith names (some_token result) old new (x ∷ xs)

-- ---- parts of a text

-- The reading is this function of what was read; or the refusal. Nothing is said where there is no memory.
abbrev pub GivesReading : {X : Type 0} → Result X ArgsFault → (X → ArgumentReading) → ArgumentReading → Type 0
GivesReading (Ok x) f r = r ≡ f x
GivesReading (Err faults.Memory) f r = Unit {0}
GivesReading (Err (faults.Syntax o)) f r = r ≡ ArgumentsFail (faults.Syntax o)
GivesReading (Err (faults.Wrong o)) f r = r ≡ ArgumentsFail (faults.Wrong o)
GivesReading (Err faults.NameBytes) f r = r ≡ ArgumentsFail faults.NameBytes
GivesReading (Err faults.Nesting) f r = r ≡ ArgumentsFail faults.Nesting

-- What stands first among what is to come is read.
pub record PassesFirst {X : Type 0} (names : List (List ℕ)) (result : Result X ArgsFault) (old new : Tokens) (x : Awaited) (f : X → ArgumentReading → ArgumentReading) : Type 0 where
  pub same : source new ≡ source old
  pub goes : (xs : List Awaited) → GivesReading result (λ y. f y (reading_on names new xs)) (reading_on names old (x ∷ xs))

-- what is to come within an argument is read, token by token: its last is the next
abbrev pub all_awaited : List Shape → List Next → List Awaited
all_awaited S ws = map (awaited S) (reverse ws)

pub record PassesNext (names : List (List ℕ)) (S : List Shape) (result : Result (Option (ℕ × ℕ)) ArgsFault) (old new : Tokens) (x : Next) (waits then_waits : List Next) : Type 0 where
  pub same : source new ≡ source old
  pub shorter : IfOk result (λ o. length (stream new) < length (stream old))
  pub trees : IfOk result (λ o. KeepsTrees x o waits then_waits)
  pub goes : (xs : List Awaited) → GivesReading result (λ o. with_nodes (nodes_in o) (reading_on names new (all_awaited S then_waits ++ xs))) (reading_on names old (awaited S x ∷ (all_awaited S waits ++ xs)))
