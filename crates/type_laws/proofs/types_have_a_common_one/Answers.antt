use Rattle.type_laws.proofs.CommonTypes.{types_have_a_common_one}
use Rattle.type_laws.proofs.types_have_a_common_one.Goals as goal

pub returns : goal.returns
returns c = record { common = types_have_a_common_one }
