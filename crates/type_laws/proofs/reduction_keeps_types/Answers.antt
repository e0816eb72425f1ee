use Rattle.type_laws.proofs.StepsKeep.{reduction_keeps_types}
use Rattle.type_laws.proofs.reduction_keeps_types.Goals as goal

pub returns : goal.returns
returns c = record { kept = reduction_keeps_types }
