use Rattle.std.proofs.Common.{◌≡◌, ◌++◌}
use Rattle.closure_lift.specs.LiftedView.{functions_of}
use Rattle.closure_lift.specs.Lifting.{blanks}
use Rattle.closure_lift.proofs.lift.reserve.Given as goal

abbrev pub invariant-loop-i : goal.invariant-loop-i
invariant-loop-i l = functions_of l.functions.items ≡ functions_of l.initial.functions.items ++ blanks l._i
