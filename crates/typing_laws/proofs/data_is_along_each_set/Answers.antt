use Rattle.typing_laws.proofs.DataAlong.{data_is_along_each, reading_is_determined}
use Rattle.typing_laws.proofs.data_is_along_each_set.Goals as goal

pub returns : goal.returns
returns c = record { along = data_is_along_each; one = reading_is_determined }
