-- Texts of environments.
use Rattle.std.specs.Prelude.{◌≡◌, ℕ, List, [], length}
use Rattle.sexp_reader.specs.Lex.{tokens_of}
use Rattle.dump_grammar.specs.declared.refusal.ReadRefusal.{ReadRefusal}
use Rattle.dump_grammar.specs.Environments.{Dump, dump, env_of}
use Rattle.dump_grammar.specs.Judge.{texts}
use Rattle.dump_grammar.specs.Within.{DumpIsWithin}
use Rattle.dump_grammar.specs.FirstRefusal.{IsFirstRefusal}
use Rattle.dump_reader.specs.declared.environment.RawEnv.{RawEnv}
use Rattle.dump_reader.specs.NumberedEnvironment.{numbered}

-- The bytes spell the environment, by a form within the limits of the text.
pub record SpellsWithin (bytes : List ℕ) (e : RawEnv) : Type 0 where
  pub form : Dump
  pub tokens : texts (tokens_of bytes) ≡ dump form []
  pub within : DumpIsWithin form
  pub means : e ≡ numbered (env_of form)

-- The text's first refusal.
abbrev pub Refuses : List ℕ → ReadRefusal → Type 0
Refuses bytes r = IsFirstRefusal (length bytes) (tokens_of bytes) r
