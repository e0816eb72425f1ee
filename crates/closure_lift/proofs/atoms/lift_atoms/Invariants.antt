use Rattle.std.proofs.Common.{◌≡◌, take, map}
use Rattle.closure_lift.specs.Lift.{atom}
use Rattle.closure_lift.proofs.atoms.lift_atoms.Given as goal

abbrev pub invariant-loop-a : goal.invariant-loop-a
invariant-loop-a l = l.items.items ≡ map (atom l.variables.0 l.frame) (take l.a-index l.a-items)
