use Rattle.dump_grammar.proofs.RefusedTexts.{refused}
use Rattle.dump_grammar.proofs.CountedTexts.{counted}
use Rattle.dump_grammar.proofs.AcceptedTexts.{read, numbered}
use Rattle.dump_grammar.proofs.sample_texts.Goals as goal

pub returns : goal.returns
returns c = record { read = read; numbered = numbered; refused = refused; counted = counted }
