use Rattle.headline.proofs.SourceSizes.{of_source}
use Rattle.headline.proofs.erased_programs_are_within.Goals as goal

pub returns : goal.returns
returns c = record { within = of_source }
