-- Whole environments: `(env 1 (levels l*) (constraints c*) d* (main t))`.
use Rattle.std.specs.Prelude.{◌≡◌, ℕ, List, [], ◌∷◌, map}
use Rattle.sexp_reader.specs.Text.{Text, Open, Close, Atom}
use Rattle.dump_grammar.specs.declared.keyword.Keyword.{Keyword}
use Rattle.dump_grammar.specs.declared.keyword.Keyword.TheVariants as words
use Rattle.dump_grammar.specs.Numbers.{word, LevelName}
use Rattle.dump_grammar.specs.Terms.{Form, form, meaning, atoms}
use Rattle.dump_grammar.specs.Declarations.{DeclForm, declaration, declaration_meaning}
use Rattle.dump_grammar.specs.Named.{NamedComparison, Less, AtMost, Equal, NamedConstraint, NamedEnv}

-- `(lt l l)`, `(le l l)`, `(eq l l)`
pub record ConstraintForm : Type 0 where
  pub relation : NamedComparison
  pub left : List ℕ
  pub right : List ℕ

pub record Dump : Type 0 where
  pub levels : List LevelName
  pub constraints : List ConstraintForm
  pub decls : List DeclForm
  pub main : Form

-- ---- the tokens

abbrev pub word_of_comparison : NamedComparison → Keyword
word_of_comparison Less = words.Lt
word_of_comparison AtMost = words.Le
word_of_comparison Equal = words.Eq

abbrev pub level_names : List LevelName → List (List ℕ)
level_names [] = []
level_names (l ∷ more) = l.name ∷ level_names more

abbrev pub constraint : ConstraintForm → List Text → List Text
constraint c after = word (word_of_comparison c.relation) ∷ Atom c.left ∷ Atom c.right ∷ Close ∷ after

unfoldable pub constraints : List ConstraintForm → List Text → List Text
constraints [] after = after
constraints (c ∷ more) after = Open ∷ constraint c (constraints more after)

-- the declarations and main, after the first bracket
unfoldable pub declarations : List DeclForm → Form → List Text → List Text
declarations [] t after = word words.Main ∷ Open ∷ form t (Close ∷ after)
declarations (d ∷ more) t after = declaration d (Open ∷ declarations more t after)

abbrev pub dump : Dump → List Text → List Text
dump d after =
    Open ∷ word words.Env ∷ word words.One
    ∷ Open ∷ word words.Levels ∷ atoms (level_names d.levels) (Close
    ∷ Open ∷ word words.Constraints ∷ constraints d.constraints (Close
    ∷ Open ∷ declarations d.decls d.main (Close ∷ after)))

-- ---- what they mean

abbrev pub constraint_meaning : ConstraintForm → NamedConstraint
constraint_meaning c = record { left = c.left; relation = c.relation; right = c.right }

abbrev pub env_of : Dump → NamedEnv
env_of d = record { levels = level_names d.levels; constraints = map constraint_meaning d.constraints; decls = map declaration_meaning d.decls; main = meaning d.main }

-- These tokens spell this environment.
abbrev pub SpellsEnv : List Text → NamedEnv → Type 0
SpellsEnv tokens env = (d : Dump) × (tokens ≡ dump d []) × (env ≡ env_of d)
