use Rattle.metatheory.proofs.EmptyFamilies.{empty_families_have_no_values}
use Rattle.metatheory.proofs.empty_families_have_no_values.Goals as goal

pub returns : goal.returns
returns c = record { values = empty_families_have_no_values }
