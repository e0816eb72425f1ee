use Rattle.back_end.proofs.Bounds.{bounds}
use Rattle.back_end.proofs.steps_and_memory_are_bounded.Goals as goal

pub returns : goal.returns
returns c = record { bounded = bounds }
