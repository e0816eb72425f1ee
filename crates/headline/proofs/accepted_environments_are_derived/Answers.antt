use Rattle.headline.proofs.Derived.{derived}
use Rattle.headline.proofs.accepted_environments_are_derived.Goals as goal

pub returns : goal.returns
returns c = record { derived = derived }
