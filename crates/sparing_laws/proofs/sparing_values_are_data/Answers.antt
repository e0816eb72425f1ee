use Rattle.sparing_laws.proofs.Reading.{sparing_values_are_data}
use Rattle.sparing_laws.proofs.sparing_values_are_data.Goals as goal

pub returns : goal.returns
returns c = record { reads = sparing_values_are_data }
