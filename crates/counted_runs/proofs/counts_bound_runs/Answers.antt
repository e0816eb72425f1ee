use Rattle.counted_runs.proofs.Bounded.{counts_bound_runs}
use Rattle.counted_runs.proofs.counts_bound_runs.Goals as goal

pub returns : goal.returns
returns c = record { bounded = counts_bound_runs }
