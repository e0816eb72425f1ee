-- What the verdict on a text says.
use Rattle.std.specs.Prelude.{◌≡◌, ◌⊎◌, ℕ, List, [], ◌∷◌, ◌++◌, Some, None}
use Rattle.sexp_reader.specs.Text.{Text}
use Rattle.sexp_reader.specs.Lex.{Spanned}
use Rattle.dump_grammar.specs.declared.refusal.Foreign.{Foreign}
use Rattle.dump_grammar.specs.declared.refusal.Limit.{Limit}
use Rattle.dump_grammar.specs.declared.refusal.ReadRefusal.TheVariants as refusals
use Rattle.dump_grammar.specs.Named.{NamedEnv}
use Rattle.dump_grammar.specs.Environments.{SpellsEnv}
use Rattle.dump_grammar.specs.Table.{Value, VEnv, Item, start, step}
use Rattle.dump_grammar.specs.Exactness.{Begins, IsDead}
use Rattle.dump_grammar.specs.Foreign.{foreign}
use Rattle.dump_grammar.specs.Limits.{token_over, over}
use Rattle.dump_grammar.specs.Judge.{texts, Fine, Refuse, verdict}
use Rattle.dump_grammar.specs.FirstRefusal.{nesting_of, state_from, NothingBefore}

-- where the first of the rest stands, or the end
abbrev pub place : ℕ → List Spanned → ℕ
place len [] = len
place len (s ∷ ss) = s.start

-- The offset of the first token such that no text's tokens begin with the tokens up to and including it, or the length of a text that ended early.
pub record SyntaxAt (len : ℕ) (tokens : List Spanned) (offset : ℕ) : Type 0 where
  pub front : List Spanned
  pub rest : List Spanned
  pub parts : tokens ≡ front ++ rest
  pub begins : Begins (texts front)
  pub dead : IsDead (texts front) (texts rest)
  pub at : offset ≡ place len rest

-- The token here has these tokens before it, at none of which a refusal arises, and these items and values stand behind them; some text begins with
-- them.
pub record Reached (tokens : List Spanned) (here : Spanned) (rest : List Spanned) (items : List Item) (values : List Value) (nesting : ℕ) : Type 0 where
  pub front : List Spanned
  pub parts : tokens ≡ front ++ here ∷ rest
  pub nothing_before : NothingBefore front (here ∷ rest)
  pub stands : state_from start [] (texts front) ≡ Some (items, values)
  pub nesting_is : nesting ≡ nesting_of 0 front
  pub begins : Begins (texts front)

-- A form that is known and not read begins at this offset: the token passes no limit of tokens and stands in the place of an item where it stands
-- for the form, and no text goes on with it.
pub record UnsupportedAt (tokens : List Spanned) (what : Foreign) (offset : ℕ) : Type 0 where
  pub here : Spanned
  pub rest : List Spanned
  pub item : Item
  pub items : List Item
  pub values : List Value
  pub nesting : ℕ
  pub reached : Reached tokens here rest (item ∷ items) values nesting
  pub within : token_over nesting here.text ≡ None
  pub stands : foreign item here.text ≡ Some what
  pub dead : IsDead (texts reached.front) (texts (here ∷ rest))
  pub at : offset ≡ here.start

-- The item takes the token, and passes the limit by it.
abbrev pub Passes : List Item → Text → List Value → List Text → Limit → Type 0
Passes [] t vs rest l = ⊥
Passes (i ∷ is) t vs rest l = (m : List Item × List Value) × (step i t vs ≡ Some m) × (over i t vs rest ≡ Some l)

-- The token passes the limit where these items and values stand: by itself, or else by what it adds to what has been read.
abbrev pub PassesAt : (nesting : ℕ) → List Item → Spanned → List Value → (rest : List Spanned) → Limit → Type 0
PassesAt d is s vs ss l = (token_over d s.text ≡ Some l) ⊎ ((token_over d s.text ≡ None) × Passes is s.text vs (texts ss) l)

-- A limit is passed at this offset.
pub record LimitAt (tokens : List Spanned) (which : Limit) (offset : ℕ) : Type 0 where
  pub here : Spanned
  pub rest : List Spanned
  pub items : List Item
  pub values : List Value
  pub nesting : ℕ
  pub reached : Reached tokens here rest items values nesting
  pub passes : PassesAt nesting items here values rest which
  pub at : offset ≡ here.start

pub record IsJudged : Type 0 where
  -- what is accepted is spelled
  pub fine : (len : ℕ) (tokens : List Spanned) (values : List Value) → verdict len tokens ≡ Fine values → (env : NamedEnv) × (values ≡ VEnv env ∷ []) × SpellsEnv (texts tokens) env
  -- each refusal stands where its cause is
  pub syntax : (len : ℕ) (tokens : List Spanned) (offset : ℕ) → verdict len tokens ≡ Refuse (refusals.Syntax offset) → SyntaxAt len tokens offset
  pub unsupported : (len : ℕ) (tokens : List Spanned) (what : Foreign) (offset : ℕ) → verdict len tokens ≡ Refuse (refusals.Unsupported what offset) → UnsupportedAt tokens what offset
  pub limit : (len : ℕ) (tokens : List Spanned) (which : Limit) (offset : ℕ) → verdict len tokens ≡ Refuse (refusals.Limit which offset) → LimitAt tokens which offset
  -- and there it is refused
  pub unsupported_there : (len : ℕ) (tokens : List Spanned) (what : Foreign) (offset : ℕ) → UnsupportedAt tokens what offset → verdict len tokens ≡ Refuse (refusals.Unsupported what offset)
  pub limit_there : (len : ℕ) (tokens : List Spanned) (which : Limit) (offset : ℕ) → LimitAt tokens which offset → verdict len tokens ≡ Refuse (refusals.Limit which offset)
  -- want of memory is no refusal of a text
  pub memory : (len : ℕ) (tokens : List Spanned) → verdict len tokens ≡ Refuse refusals.Memory → ⊥
  -- what is spelled is accepted, or passes a limit
  pub spelled : (len : ℕ) (tokens : List Spanned) (env : NamedEnv) → SpellsEnv (texts tokens) env →
      (verdict len tokens ≡ Fine (VEnv env ∷ [])) ⊎ ((which : Limit) × (offset : ℕ) × (verdict len tokens ≡ Refuse (refusals.Limit which offset)))
