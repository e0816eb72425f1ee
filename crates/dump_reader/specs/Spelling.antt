-- Which environment a text spells, and what an answer of reading has to do with the verdict on the text.
use Rattle.std.specs.Prelude.{◌≡◌, ◌⊎◌, ℕ, List, [], ◌∷◌, length, Result, Ok, Err}
use Rattle.sexp_reader.specs.Lex.{tokens_of}
use Rattle.dump_grammar.specs.declared.refusal.ReadRefusal.{ReadRefusal}
use Rattle.dump_grammar.specs.declared.refusal.ReadRefusal.TheVariants as refusals
use Rattle.dump_grammar.specs.Named.{NamedEnv}
use Rattle.dump_grammar.specs.Table.{VEnv}
use Rattle.dump_grammar.specs.Judge.{texts, Verdict, Fine, Refuse, verdict}
use Rattle.dump_grammar.specs.Environments as grammar
use Rattle.dump_grammar.specs.Environments.{Dump}
use Rattle.dump_reader.specs.declared.environment.RawEnv.{RawEnv}
use Rattle.dump_reader.specs.NumberedEnvironment.{numbered}
use Rattle.dump_reader.specs.Front.{front_length, front_bytes}

-- The text's tokens spell an environment with these numbers.
abbrev pub Spells : List ℕ → RawEnv → Type 0
Spells bytes raw = (env : NamedEnv) × grammar.SpellsEnv (texts (tokens_of bytes)) env × (raw ≡ numbered env)

-- the verdict on a text
abbrev pub verdict_on : List ℕ → Verdict
verdict_on bytes = verdict (length bytes) (tokens_of bytes)

-- The answer is the verdict on the text, or that there is no memory.
abbrev pub IsVerdict : List ℕ → Result RawEnv ReadRefusal → Type 0
IsVerdict bytes (Ok raw) = (env : NamedEnv) × (verdict_on bytes ≡ Fine (VEnv env ∷ [])) × (raw ≡ numbered env)
IsVerdict bytes (Err refusals.Memory) = Unit {0}
IsVerdict bytes (Err r) = verdict_on bytes ≡ Refuse r

-- The answer is the verdict on the front of the text, with the offset behind it, or that there is no memory.
abbrev pub IsFrontVerdict : List ℕ → Result (RawEnv × ℕ) ReadRefusal → Type 0
IsFrontVerdict bytes (Ok read) = (read.1 ≡ front_length bytes) × IsVerdict (front_bytes bytes) (Ok read.0)
IsFrontVerdict bytes (Err r) = IsVerdict (front_bytes bytes) (Err r)

-- What a text that begins with a dump is read as, but for memory.
abbrev pub IsReadAs : List ℕ → Dump → Result (RawEnv × ℕ) ReadRefusal → Type 0
IsReadAs bytes d result = (result ≡ Ok (numbered (grammar.env_of d), front_length bytes)) ⊎ (result ≡ Err refusals.Memory)
