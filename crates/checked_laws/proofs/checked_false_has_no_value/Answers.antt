use Rattle.checked_laws.proofs.CheckedFalse.{checked_false_has_no_value, checked_false_never_ends}
use Rattle.checked_laws.proofs.checked_false_has_no_value.Goals as goal

pub returns : goal.returns
returns c = record { values = checked_false_has_no_value; never = checked_false_never_ends }
