use Rattle.closure_lift.proofs.Follows.{lift_keeps}
use Rattle.closure_lift.proofs.lift_law.Goals as goal

pub returns : goal.returns
returns c = record { keeps = lift_keeps }
