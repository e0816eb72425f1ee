use Rattle.std.proofs.Common.{◌≡◌, ℕ, List, sym, ap, ◌∙◌}
use Rattle.sexp_reader.specs.Lex.{tokens_of}
use Rattle.dump_grammar.specs.Judge.{texts}
use Rattle.dump_grammar.specs.Named.{NamedEnv}
use Rattle.dump_reader.specs.NumberedEnvironment.{numbered}
use Rattle.dump_grammar.proofs.Exact.{exact}
use Rattle.dump_reader.proofs.reading.meaning_is_unique.Goals as goal

pub returns : goal.returns
returns c = record {
  unique = λ bytes a b p q.
      let same : p.0 ≡ q.0 = exact.one_meaning (texts (tokens_of bytes)) p.0 q.0 p.1 q.1 in
      p.2 ∙ ap numbered same ∙ sym q.2;
}
