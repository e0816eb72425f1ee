use Rattle.call_laws.proofs.Fronts.{front_and_rest}
use Rattle.call_laws.proofs.fronts_part_the_input.Goals as goal

pub returns : goal.returns
returns c = record { tokens = front_and_rest }
