-- What stands next in a text of arguments, token by token, and the first refusal of such a text. At one token the limits of tokens come first, then what no text of the form
-- goes on with, then what doesn't stand at its type.
use Rattle.std.specs.Prelude.{◌≡◌, ℕ, ◌+◌, List, [], ◌∷◌, ◌++◌, length, drop, map, bytes_eq, if◌then◌else◌, Option, Some, None, Result, Ok, Err, IfOk, IfErr, Vec}
use Rattle.std.specs.declared.alloc.Global.{Global}
use Rattle.sexp_reader.specs.Text.{Text, Open, Close, Atom}
use Rattle.sexp_reader.specs.Lex.{Spanned, answer_at, nesting_after_text, tokens_of}
use Rattle.sexp_reader.specs.declared.Token.{Token}
use Rattle.sexp_reader.specs.declared.TokenFault.{TokenFault}
use Rattle.sexp_reader.specs.declared.TokenFault.TheVariants as tokens
use Rattle.dump_grammar.specs.Keywords.{spelling}
use Rattle.dump_grammar.specs.declared.keyword.Keyword.TheVariants as words
use Rattle.dump_grammar.specs.Judge.{texts}
use Rattle.calculus_rules.specs.FirstOrder.{Data}
use Rattle.data_trees.specs.Preorder.{IsTree}
use Rattle.first_order.specs.declared.shapes.Shape.{Shape}
use Rattle.first_order.specs.declared.shapes.Shapes.{Shapes}
use Rattle.first_order.specs.declared.faults.ArgsFault.{ArgsFault}
use Rattle.first_order.specs.declared.faults.ArgsFault.TheVariants as faults
use Rattle.first_order.specs.declared.given.Turn.{Turn}
use Rattle.first_order.specs.declared.given.Turn.TheVariants.{First, Later}
use Rattle.first_order.specs.ArgumentTexts.{ctor_at, SpellsArguments}

-- What is to come next. The items between two brackets are one at least by the form, so the bracket that closes can't stand in the turn of the first.
pub data Awaited : Type 0 where
  AwaitsOpen : Awaited
  AwaitsWord : Awaited
  -- data at a place of these types
  AwaitsItem : Turn → List Shape → ℕ → Awaited
  -- the name behind a bracket
  AwaitsName : List Shape → ℕ → Awaited
  -- the bracket that closes, where no item is missing
  AwaitsClose : Turn → Awaited

-- what is to come between two brackets, and the bracket that closes
abbrev pub items_in : Turn → List Shape → List ℕ → List Awaited
items_in t S [] = AwaitsClose t ∷ []
items_in t S (j ∷ js) = AwaitsItem t S j ∷ items_in Later S js

abbrev pub arguments_in : Turn → List (List Shape) → List Awaited
arguments_in t [] = AwaitsClose t ∷ []
arguments_in t (S ∷ Ss) = AwaitsItem t S 0 ∷ arguments_in Later Ss

-- the whole text
abbrev pub whole_call : List (List Shape) → List Awaited
whole_call Ss = AwaitsOpen ∷ AwaitsWord ∷ arguments_in First Ss

-- ---- a token where something is to come

-- No text of the form goes on so; what stands here doesn't stand at its type; or it is read, with what is to come in its place and the node that it is, if it is one.
pub data Taking : Type 0 where
  BreaksForm : Taking
  Misplaced : Taking
  TakesToken : List Awaited → Data → Taking

abbrev pub closing : Turn → Taking → Taking
closing First t = BreaksForm
closing Later t = t

-- a name without a bracket
abbrev pub alone : Option (ℕ × List ℕ) → Taking
alone None = Misplaced
alone (Some (c, [])) = TakesToken [] ((c, 0) ∷ [])
alone (Some (c, j ∷ js)) = Misplaced

-- a name behind a bracket
abbrev pub opened : List Shape → Option (ℕ × List ℕ) → Taking
opened S None = Misplaced
opened S (Some k) = TakesToken (items_in First S k.1) ((k.0, length k.1) ∷ [])

abbrev pub taking : (names : List (List ℕ)) → Awaited → Text → Taking
taking names AwaitsOpen Open = TakesToken [] []
taking names AwaitsWord (Atom a) = if bytes_eq a (spelling words.Args) then TakesToken [] [] else BreaksForm
taking names (AwaitsItem t S i) Open = TakesToken (AwaitsName S i ∷ []) []
taking names (AwaitsItem t S i) (Atom a) = alone (ctor_at names S i a)
taking names (AwaitsItem t S i) Close = closing t Misplaced
taking names (AwaitsName S i) (Atom a) = opened S (ctor_at names S i a)
taking names (AwaitsClose t) Close = closing t (TakesToken [] [])
taking names (AwaitsClose t) Open = Misplaced
taking names (AwaitsClose t) (Atom a) = Misplaced
taking names _ _ = BreaksForm

-- ---- the whole text

-- the nodes of all arguments, one argument behind the other; or the first refusal
pub data ArgumentReading : Type 0 where
  ArgumentsAre : Data → ArgumentReading
  ArgumentsFail : ArgsFault → ArgumentReading

abbrev pub with_nodes : Data → ArgumentReading → ArgumentReading
with_nodes ds (ArgumentsAre es) = ArgumentsAre (ds ++ es)
with_nodes ds (ArgumentsFail f) = ArgumentsFail f

abbrev pub token_fault : TokenFault → ArgsFault
token_fault (tokens.Stray o) = faults.Syntax o
token_fault (tokens.NameBytes o) = faults.NameBytes
token_fault (tokens.Nesting o) = faults.Nesting

abbrev pub answered : Result (Option Token) TokenFault → ArgumentReading → ArgumentReading
answered (Ok o) r = r
answered (Err f) r = ArgumentsFail (token_fault f)

abbrev pub taken : Taking → (offset : ℕ) → (List Awaited → ArgumentReading) → ArgumentReading
taken BreaksForm o go = ArgumentsFail (faults.Syntax o)
taken Misplaced o go = ArgumentsFail (faults.Wrong o)
taken (TakesToken xs ds) o go = with_nodes ds (go xs)

-- where nothing is to come, no token stands
abbrev pub at_token : (names : List (List ℕ)) → List Awaited → (offset : ℕ) → Text → (List Awaited → ArgumentReading) → ArgumentReading
at_token names [] o t go = ArgumentsFail (faults.Syntax o)
at_token names (x ∷ xs) o t go = taken (taking names x t) o (λ ys. go (ys ++ xs))

abbrev pub at_end : (len : ℕ) → List Awaited → ArgumentReading
at_end len [] = ArgumentsAre []
at_end len (x ∷ xs) = ArgumentsFail (faults.Syntax len)

-- of tokens of a text of so many bytes, where so many brackets are open
unfoldable pub reading_of : (names : List (List ℕ)) → (len : ℕ) → List Spanned → (nesting : ℕ) → List Awaited → ArgumentReading
reading_of names len [] d xs = at_end len xs
reading_of names len (s ∷ ss) d xs = answered (answer_at d s.start s.text) (at_token names xs s.start s.text (λ ys. reading_of names len ss (nesting_after_text d s.text) ys))

-- ---- the text from an offset on; offsets are counted from the start of the whole

abbrev pub fault_behind : ℕ → ArgsFault → ArgsFault
fault_behind n (faults.Syntax o) = faults.Syntax (n + o)
fault_behind n (faults.Wrong o) = faults.Wrong (n + o)
fault_behind n f = f

abbrev pub reading_behind : ℕ → ArgumentReading → ArgumentReading
reading_behind n (ArgumentsAre ds) = ArgumentsAre ds
reading_behind n (ArgumentsFail f) = ArgumentsFail (fault_behind n f)

abbrev pub call_arguments : (names : List (List ℕ)) → List (List Shape) → List ℕ → ArgumentReading
call_arguments names Ss bytes = reading_of names (length bytes) (tokens_of bytes) 0 (whole_call Ss)

abbrev pub arguments_from : (names : List (List ℕ)) → List (List Shape) → List ℕ → ℕ → ArgumentReading
arguments_from names Ss bytes from = reading_behind from (call_arguments names Ss (drop from bytes))

-- ---- what a call answers

abbrev pub joined : List Data → Data
joined [] = []
joined (d ∷ ds) = d ++ joined ds

-- the types of each argument
abbrev pub argument_sets : List Shapes → List (List Shape)
argument_sets ss = map (λ s. s.types) ss

abbrev pub AreTrees : List Data → Type 0
AreTrees [] = Unit {0}
AreTrees (d ∷ ds) = IsTree d × AreTrees ds

-- The answer is the reading, cut into trees, one for each argument; or there is no memory.
abbrev pub AnswersReading : ArgumentReading → (count : ℕ) → Result (Vec Data Global) ArgsFault → Type 0
AnswersReading r n (Ok v) = (r ≡ ArgumentsAre (joined v.items)) × (length v.items ≡ n) × AreTrees v.items
AnswersReading r n (Err faults.Memory) = Unit {0}
AnswersReading r n (Err f) = r ≡ ArgumentsFail f

-- No token of a text is refused as such: none is a byte that belongs to no token, an atom of more than 255 bytes, or a bracket that opens a nesting of 1,001.
abbrev pub HasNoFault : (nesting : ℕ) → List Spanned → Type 0
HasNoFault d [] = Unit {0}
HasNoFault d (s ∷ ss) = ((o : Option Token) × (answer_at d s.start s.text ≡ Ok o)) × HasNoFault (nesting_after_text d s.text) ss

-- What tokens spell is the answer, where none of them is refused as such and there is memory.
abbrev pub AnswersSpelled : (names : List (List ℕ)) → List (List Shape) → List Spanned → Result (Vec Data Global) ArgsFault → Type 0
AnswersSpelled names Ss ss result =
    (ds : List Data) → SpellsArguments names Ss (texts ss) ds → HasNoFault 0 ss → IfOk result (λ v. v.items ≡ ds) × IfErr result (λ f. f ≡ faults.Memory)
