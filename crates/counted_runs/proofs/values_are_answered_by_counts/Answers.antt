use Rattle.counted_runs.proofs.Bounded.{values_are_answered_by_counts}
use Rattle.counted_runs.proofs.values_are_answered_by_counts.Goals as goal

pub returns : goal.returns
returns c = record { answered = values_are_answered_by_counts }
