use Rattle.source_limits.proofs.Functions.{functions_fewer}
use Rattle.source_limits.proofs.functions_are_fewer.Goals as goal

pub returns : goal.returns
returns c = record { nodes = functions_fewer }
