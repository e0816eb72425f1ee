-- Texts that are accepted with an environment, beside its canonical text.
use Rattle.std.specs.Prelude.{◌≡◌, ℕ, ◌≤◌, List, [], ◌∷◌}
use Rattle.sexp_reader.specs.Lex.{tokens_of}
use Rattle.dump_grammar.specs.Environments.{Dump, dump, env_of}
use Rattle.dump_grammar.specs.Table.{VEnv}
use Rattle.dump_grammar.specs.Judge.{texts, Fine}
use Rattle.dump_reader.specs.declared.environment.RawEnv.{RawEnv}
use Rattle.dump_reader.specs.NumberedEnvironment.{numbered}
use Rattle.dump_reader.specs.Spelling.{verdict_on}
use Rattle.dump_printer.specs.Canonical.{canonical_tokens}
use Rattle.dump_printer.specs.Casts.{TextHasNoCast}
use Rattle.dump_printer.specs.Nesting.{nesting}

-- The canonical text nests no deeper than any text without a cast that is accepted with this environment.
abbrev pub NestsNoDeeper : RawEnv → Type 0
NestsNoDeeper e =
    (bytes : List ℕ) (d : Dump) → verdict_on bytes ≡ Fine (VEnv (env_of d) ∷ []) → texts (tokens_of bytes) ≡ dump d [] → TextHasNoCast d → e ≡ numbered (env_of d) →
    nesting (canonical_tokens e) ≤ nesting (texts (tokens_of bytes))
