use Rattle.read_counts.proofs.KeptBlocks.{few_counts}
use Rattle.read_counts.proofs.read_counts_are_few.Goals as goal

pub returns : goal.returns
returns c = record { few = few_counts }
