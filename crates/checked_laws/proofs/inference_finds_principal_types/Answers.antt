use Rattle.checked_laws.proofs.Inferred.{inference_finds_principal_types}
use Rattle.checked_laws.proofs.Least.{inferred_types_are_least}
use Rattle.checked_laws.proofs.MainsType.{mains_type_is_least}
use Rattle.checked_laws.proofs.inference_finds_principal_types.Goals as goal

pub returns : goal.returns
returns c = record { least = inferred_types_are_least; principal = inference_finds_principal_types; main = mains_type_is_least }
