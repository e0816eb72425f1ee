use Rattle.std.proofs.Common.{◌≡◌, ◌++◌}
use Rattle.closure_lift.specs.FreeVariables.{nothing}
use Rattle.closure_lift.proofs.free.reserve.Given as goal

abbrev pub invariant-loop-i : goal.invariant-loop-i
invariant-loop-i l = l.notes.items ≡ l.initial.notes.items ++ nothing l._i
