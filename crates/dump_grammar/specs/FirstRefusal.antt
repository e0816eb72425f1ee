-- The first refusal of a text, said of each place by itself: a place is a front of the tokens and the rest. At a token NameBytes and Nesting come
-- first, then Syntax, then the forms that are known and not read, then the other limits.
use Rattle.std.specs.Prelude.{◌≡◌, ℕ, List, [], ◌∷◌, ◌++◌, Option, Some, None, Result, Ok, Err}
use Rattle.sexp_reader.specs.Text.{Text}
use Rattle.sexp_reader.specs.Lex.{Spanned, answer_at, nesting_after_text}
use Rattle.sexp_reader.specs.declared.Token.{Token}
use Rattle.sexp_reader.specs.declared.TokenFault.{TokenFault}
use Rattle.dump_grammar.specs.declared.refusal.Limit.{Limit}
use Rattle.dump_grammar.specs.declared.refusal.ReadRefusal.{ReadRefusal}
use Rattle.dump_grammar.specs.declared.refusal.ReadRefusal.TheVariants as refusals
use Rattle.dump_grammar.specs.Table.{Value, Item, start, Moved, step}
use Rattle.dump_grammar.specs.Foreign.{foreign}
use Rattle.dump_grammar.specs.Limits.{over}
use Rattle.dump_grammar.specs.Judge.{texts, fault_refusal, unread, Refuse, verdict}
use Rattle.dump_grammar.specs.Exactness.{Begins}

-- the brackets that are open behind these tokens
abbrev pub nesting_of : ℕ → List Spanned → ℕ
nesting_of d [] = d
nesting_of d (s ∷ ss) = nesting_of (nesting_after_text d s.text) ss

-- the items that may come next, and the values
abbrev pub ReadState : Type 0
ReadState = List Item × List Value

abbrev pub onward : Moved → (List Item → List Value → Option ReadState) → Option ReadState
onward None go = None
onward (Some m) go = go m.0 m.1

-- the state after these tokens, if each of them may come where it stands
unfoldable pub state_from : List Item → List Value → List Text → Option ReadState
state_from is vs [] = Some (is, vs)
state_from [] vs (t ∷ ts) = None
state_from (i ∷ is) vs (t ∷ ts) = onward (step i t vs) (λ js ws. state_from (js ++ is) ws ts)

-- what an item refuses of a token
abbrev pub item_refusal : Moved → (nothing : ReadRefusal) → Option Limit → (start : ℕ) → Option ReadRefusal
item_refusal None r l o = Some r
item_refusal (Some m) r None o = None
item_refusal (Some m) r (Some l) o = Some (refusals.Limit l o)

abbrev pub items_refusal : List Item → Spanned → List Value → (rest : List Text) → Option ReadRefusal
items_refusal [] s vs rest = Some (refusals.Syntax s.start)
items_refusal (i ∷ is) s vs rest = item_refusal (step i s.text vs) (unread (foreign i s.text) s.start) (over i s.text vs rest) s.start

abbrev pub answer_refusal : Result (Option Token) TokenFault → Option ReadRefusal → Option ReadRefusal
answer_refusal (Ok o) r = r
answer_refusal (Err f) r = Some (fault_refusal f)

-- what a token refuses
abbrev pub token_refusal : (nesting : ℕ) → Spanned → (after : List Spanned) → ReadState → Option ReadRefusal
token_refusal d s ss st = answer_refusal (answer_at d s.start s.text) (items_refusal st.0 s st.1 (texts ss))

-- the end of the text refuses where something more may come
abbrev pub end_refusal : (len : ℕ) → List Item → Option ReadRefusal
end_refusal len [] = None
end_refusal len (i ∷ is) = Some (refusals.Syntax len)

abbrev pub rest_refusal : (len nesting : ℕ) → (rest : List Spanned) → ReadState → Option ReadRefusal
rest_refusal len d [] st = end_refusal len st.0
rest_refusal len d (s ∷ ss) st = token_refusal d s ss st

abbrev pub on_state : Option ReadState → (ReadState → Option ReadRefusal) → Option ReadRefusal
on_state None go = None
on_state (Some st) go = go st

-- What arises behind a front of the tokens, at the first of the rest or at the end. (Where no state stands behind the front, a token before is refused.)
abbrev pub refusal_from : (len nesting : ℕ) → List Item → List Value → (front rest : List Spanned) → Option ReadRefusal
refusal_from len d is vs front rest = on_state (state_from is vs (texts front)) (rest_refusal len (nesting_of d front) rest)

abbrev pub refusal_at : (len : ℕ) → (front rest : List Spanned) → Option ReadRefusal
refusal_at len front rest = refusal_from len 0 start [] front rest

-- nothing arises at any token of the front
abbrev pub NothingBefore : (front rest : List Spanned) → Type 0
NothingBefore front rest = (before : List Spanned) (s : Spanned) (after : List Spanned) → front ≡ before ++ s ∷ after →
    on_state (state_from start [] (texts before)) (token_refusal (nesting_of 0 before) s (after ++ rest)) ≡ None

pub record IsFirstRefusal (len : ℕ) (tokens : List Spanned) (r : ReadRefusal) : Type 0 where
  pub front : List Spanned
  pub rest : List Spanned
  pub parts : tokens ≡ front ++ rest
  pub stands : (st : ReadState) × (state_from start [] (texts front) ≡ Some st)
  pub arises : refusal_at len front rest ≡ Some r
  pub nothing_before : NothingBefore front rest

pub record IsFirst : Type 0 where
  -- A state stands exactly behind the tokens that some text begins with.
  pub begins : (front : List Text) (st : ReadState) → state_from start [] front ≡ Some st → Begins front
  pub stands : (front : List Text) → Begins front → (st : ReadState) × (state_from start [] front ≡ Some st)
  -- The verdict refuses exactly with the first refusal.
  pub refuses : (len : ℕ) (tokens : List Spanned) (r : ReadRefusal) → verdict len tokens ≡ Refuse r → IsFirstRefusal len tokens r
  pub refused : (len : ℕ) (tokens : List Spanned) (r : ReadRefusal) → IsFirstRefusal len tokens r → verdict len tokens ≡ Refuse r
