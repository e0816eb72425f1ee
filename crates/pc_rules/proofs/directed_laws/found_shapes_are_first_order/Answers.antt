use Rattle.pc_rules.proofs.SearchRuns.{search_is, without_earlier}
use Rattle.pc_rules.proofs.directed_laws.found_shapes_are_first_order.Goals as goal

pub returns : goal.returns
returns c = record { found = search_is; without = without_earlier }
