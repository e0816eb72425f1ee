use Rattle.source_limits.proofs.Sources.{sources_bound_sizes, refusals_show_source_sizes}
use Rattle.source_limits.proofs.sources_bound_sizes.Goals as goal

pub returns-clause-bounds : goal.returns-clause-bounds
returns-clause-bounds c = sources_bound_sizes

pub returns-clause-refused : goal.returns-clause-refused
returns-clause-refused c = refusals_show_source_sizes
