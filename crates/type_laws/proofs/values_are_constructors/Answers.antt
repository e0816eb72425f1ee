use Rattle.type_laws.proofs.Canonical.{values_are_constructors}
use Rattle.type_laws.proofs.values_are_constructors.Goals as goal

pub returns : goal.returns
returns c = record { built = values_are_constructors }
