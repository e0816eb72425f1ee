-- What reading promises, in the words of the grammar alone.
use Rattle.std.specs.Prelude.{◌≡◌, List, [], ◌∷◌, ◌++◌}
use Rattle.sexp_reader.specs.Text.{Text}
use Rattle.dump_grammar.specs.Named.{NamedEnv}
use Rattle.dump_grammar.specs.Environments.{SpellsEnv}
use Rattle.dump_grammar.specs.Table.{VEnv, ReadOutcome, Accepted, Refused, run, start}

-- some text's tokens begin with these
abbrev pub Begins : List Text → Type 0
Begins front = (more : List Text) × (env : NamedEnv) × SpellsEnv (front ++ more) env

-- Nothing begins with the tokens up to the first of the rest; where nothing is left, the tokens are no text.
abbrev pub IsDead : List Text → List Text → Type 0
IsDead front [] = (env : NamedEnv) → SpellsEnv front env → ⊥
IsDead front (t ∷ rest) = Begins (front ++ t ∷ []) → ⊥

-- The rest begins where the first token stands at which no text goes on.
pub record StopsAt (tokens rest : List Text) : Type 0 where
  pub front : List Text
  pub parts : tokens ≡ front ++ rest
  pub begins : Begins front
  pub dead : IsDead front rest

abbrev pub MeetsTokens : ReadOutcome → List Text → Type 0
MeetsTokens (Accepted vs) tokens = (env : NamedEnv) × (vs ≡ VEnv env ∷ []) × SpellsEnv tokens env
MeetsTokens (Refused rest) tokens = StopsAt tokens rest

-- Reading gives what the tokens spell, or stops at the first token that no text goes on with; and a text has one meaning.
pub record IsExact : Type 0 where
  pub outcome : (tokens : List Text) → MeetsTokens (run start [] tokens) tokens
  pub read : (tokens : List Text) (env : NamedEnv) → SpellsEnv tokens env → run start [] tokens ≡ Accepted (VEnv env ∷ [])
  pub one_meaning : (tokens : List Text) (a b : NamedEnv) → SpellsEnv tokens a → SpellsEnv tokens b → a ≡ b
