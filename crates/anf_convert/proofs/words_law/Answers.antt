use Rattle.anf_convert.proofs.Words.{words_bound}
use Rattle.anf_convert.proofs.words_law.Goals as goal

pub returns : goal.returns
returns c = record { bound = words_bound }
