use Rattle.source_limits.proofs.Sizes.{small_programs_fit}
use Rattle.source_limits.proofs.Sources.{small_sources_fit}
use Rattle.source_limits.proofs.small_programs_fit.Goals as goal

pub returns-clause-fit : goal.returns-clause-fit
returns-clause-fit c = small_programs_fit

pub returns-clause-sources : goal.returns-clause-sources
returns-clause-sources c = small_sources_fit
