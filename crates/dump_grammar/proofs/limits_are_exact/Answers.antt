use Rattle.dump_grammar.proofs.Within.{limited}
use Rattle.dump_grammar.proofs.limits_are_exact.Goals as goal

pub returns : goal.returns
returns c = record { limited = limited }
