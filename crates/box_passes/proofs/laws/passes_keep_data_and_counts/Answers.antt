use Rattle.box_passes.proofs.Passes.{passes_count}
use Rattle.box_passes.proofs.laws.passes_keep_data_and_counts.Goals as goal

pub returns : goal.returns
returns c = record { counts = passes_count }
