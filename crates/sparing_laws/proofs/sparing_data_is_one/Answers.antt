use Rattle.sparing_laws.proofs.OneData.{sparing_data_is_one, sparing_gives_the_same_data}
use Rattle.sparing_laws.proofs.sparing_data_is_one.Goals as goal

pub returns : goal.returns
returns c = record { one = sparing_data_is_one; same = sparing_gives_the_same_data }
