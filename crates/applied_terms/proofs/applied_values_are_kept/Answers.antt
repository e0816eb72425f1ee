use Rattle.applied_terms.proofs.KeptValues.{applied_values_are_kept}
use Rattle.applied_terms.proofs.applied_values_are_kept.Goals as goal

pub returns : goal.returns
returns c = record { kept = applied_values_are_kept }
