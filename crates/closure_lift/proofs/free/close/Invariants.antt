use Rattle.std.proofs.Common.{◌≡◌, ◌++◌, take}
use Rattle.closure_lift.proofs.free.close.Given as goal

abbrev pub invariant-loop-x : goal.invariant-loop-x
invariant-loop-x l = l.names.items ≡ l.initial.names.items ++ take l.x-index l.x-items
