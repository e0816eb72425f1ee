use Rattle.closure_lift.proofs.Renumbered.{lift_block_renumbered}
use Rattle.closure_lift.proofs.RenumberedFunctions.{functions_block_renumbered}
use Rattle.closure_lift.proofs.constants_law.Goals as goal

pub returns : goal.returns
returns c = record { same = lift_block_renumbered; functions = functions_block_renumbered }
