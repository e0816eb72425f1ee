use Rattle.shrink_passes.proofs.DropSteps.{drop_is_right}
use Rattle.shrink_passes.proofs.laws.dropped_programs_are_right.Goals as goal

pub returns : goal.returns
returns c = record { right = drop_is_right }
