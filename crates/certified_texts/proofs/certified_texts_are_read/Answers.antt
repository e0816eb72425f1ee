use Rattle.certified_texts.proofs.Behind.{both_read}
use Rattle.certified_texts.proofs.certified_texts_are_read.Goals as goal

pub returns : goal.returns
returns c = record { read = both_read }
