use Rattle.std.proofs.Common.{◌≡◌, take}
use Rattle.instances.proofs.instances.fixpoints.shared_definitions.Given as goal

abbrev pub invariant-loop-d : goal.invariant-loop-d
invariant-loop-d l = l.out ≡ take l.d-index l.d-items
