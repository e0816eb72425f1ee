use Rattle.shrink_passes.proofs.InlineSteps.{inline_is_right}
use Rattle.shrink_passes.proofs.laws.inlined_programs_are_right.Goals as goal

pub returns : goal.returns
returns c = record { right = inline_is_right }
