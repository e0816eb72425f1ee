use Rattle.std.proofs.Common.{◌≡◌, ◌++◌, drop}
use Rattle.type_infer.proofs.scrutinees.items_from.Given as goal

abbrev pub invariant-loop-i : goal.invariant-loop-i
invariant-loop-i l = l.out ++ drop l.i l.items ≡ drop l.start l.items
