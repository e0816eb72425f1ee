use Rattle.type_laws.proofs.Validity.{types_have_sorts}
use Rattle.type_laws.proofs.types_have_sorts.Goals as goal

pub returns : goal.returns
returns c = record { sorts = types_have_sorts }
