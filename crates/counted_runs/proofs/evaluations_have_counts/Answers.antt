use Rattle.counted_runs.proofs.Bounded.{evaluations_have_counts, counts_are_one}
use Rattle.counted_runs.proofs.evaluations_have_counts.Goals as goal

pub returns : goal.returns
returns c = record { counted = evaluations_have_counts; one = counts_are_one }
