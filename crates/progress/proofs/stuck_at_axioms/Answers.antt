use Rattle.progress.proofs.Consequences.{stuck_at_axioms}
use Rattle.progress.proofs.stuck_at_axioms.Goals as goal

pub returns : goal.returns
returns c = record { axioms = stuck_at_axioms }
