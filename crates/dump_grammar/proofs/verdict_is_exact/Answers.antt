use Rattle.dump_grammar.proofs.FirstRefusal.{first_refusal}
use Rattle.dump_grammar.proofs.Law.{judged}
use Rattle.dump_grammar.proofs.verdict_is_exact.Goals as goal

pub returns : goal.returns
returns c = record { judged = judged; first = first_refusal }
