-- Environments that some text spells within the limits.
use Rattle.std.specs.Prelude.{◌≡◌, ℕ, List, [], ◌∷◌}
use Rattle.dump_grammar.specs.Named.{NamedEnv}
use Rattle.dump_grammar.specs.Table.{VEnv}
use Rattle.dump_grammar.specs.Judge.{Fine}
use Rattle.dump_reader.specs.declared.environment.RawEnv.{RawEnv}
use Rattle.dump_reader.specs.NumberedEnvironment.{numbered}
use Rattle.dump_reader.specs.Spelling.{verdict_on}

-- Some text is accepted with this environment.
abbrev pub IsSpelled : RawEnv → Type 0
IsSpelled e = (bytes : List ℕ) × (env : NamedEnv) × (verdict_on bytes ≡ Fine (VEnv env ∷ [])) × (e ≡ numbered env)
