use Rattle.sparing_laws.proofs.Included.{evaluations_are_sparing}
use Rattle.sparing_laws.proofs.evaluations_are_sparing.Goals as goal

pub returns : goal.returns
returns c = record { sparing = evaluations_are_sparing }
