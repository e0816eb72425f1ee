use Rattle.std.proofs.Common.{◌≡◌, ◌++◌, take}
use Rattle.instances.proofs.instances.applied.push_shared.Given as goal

abbrev pub invariant-loop-i : goal.invariant-loop-i
invariant-loop-i l = l.out ≡ l.fn.out ++ take l.i l.items
