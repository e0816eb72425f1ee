use Rattle.dump_grammar.proofs.Numbering.{numbering}
use Rattle.dump_grammar.proofs.numbers_are_by_first_use.Goals as goal

pub returns : goal.returns
returns c = record { numbered = numbering }
