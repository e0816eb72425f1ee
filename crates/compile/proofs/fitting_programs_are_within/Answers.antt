use Rattle.compile.proofs.Within.{fits_within}
use Rattle.compile.proofs.fitting_programs_are_within.Goals as goal

pub returns : goal.returns
returns c = record { within = fits_within }
