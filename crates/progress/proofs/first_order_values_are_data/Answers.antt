use Rattle.progress.proofs.Consequences.{first_order_values_are_data}
use Rattle.progress.proofs.first_order_values_are_data.Goals as goal

pub returns : goal.returns
returns c = record { readable = first_order_values_are_data }
