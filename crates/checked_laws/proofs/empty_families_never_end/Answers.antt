use Rattle.checked_laws.proofs.EmptyFamilies.{empty_families_end_at_axioms, empty_families_never_end}
use Rattle.checked_laws.proofs.empty_families_never_end.Goals as goal

pub returns : goal.returns
returns c = record { ends = empty_families_end_at_axioms; never = empty_families_never_end }
