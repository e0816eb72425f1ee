use Rattle.job_laws.proofs.StuckRuns.{stuck_evals_meet_axioms, no_eval_is_stuck}
use Rattle.job_laws.proofs.stuck_evals_meet_axioms.Goals as goal

pub returns : goal.returns
returns c = record { axioms = stuck_evals_meet_axioms; never = no_eval_is_stuck }
