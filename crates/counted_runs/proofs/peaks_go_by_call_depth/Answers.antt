use Rattle.counted_runs.proofs.Bounded.{peaks_go_by_call_depth}
use Rattle.counted_runs.proofs.peaks_go_by_call_depth.Goals as goal

pub returns : goal.returns
returns c = record { frames = peaks_go_by_call_depth }
