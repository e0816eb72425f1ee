use Rattle.metatheory.proofs.Negative.{negative_blocks_are_refused}
use Rattle.metatheory.proofs.negative_blocks_are_refused.Goals as goal

pub returns : goal.returns
returns c = record { refused = negative_blocks_are_refused }
