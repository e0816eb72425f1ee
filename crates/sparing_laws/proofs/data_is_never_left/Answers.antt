use Rattle.sparing_laws.proofs.Evidence.{data_is_never_left}
use Rattle.sparing_laws.proofs.data_is_never_left.Goals as goal

pub returns : goal.returns
returns c = record { evaluated = data_is_never_left }
