use Rattle.dump_grammar.proofs.Exact.{exact}
use Rattle.dump_grammar.proofs.reading_is_exact.Goals as goal

pub returns : goal.returns
returns c = record { exact = exact }
