use Rattle.source_limits.proofs.Sizes.{refusals_show_sizes, large_modules_show_sizes, large_call_modules_show_sizes}
use Rattle.source_limits.proofs.refusals_show_sizes.Goals as goal

pub returns-clause-refused : goal.returns-clause-refused
returns-clause-refused c = refusals_show_sizes

pub returns-clause-bytes : goal.returns-clause-bytes
returns-clause-bytes c = large_modules_show_sizes

pub returns-clause-calls : goal.returns-clause-calls
returns-clause-calls c = large_call_modules_show_sizes
