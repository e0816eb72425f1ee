use Rattle.std.proofs.Common.{◌≡◌}
use Rattle.reduce_machine.specs.Values.{lessened}
use Rattle.reduce_machine.proofs.values.lessened.Given as goal

abbrev pub invariant-loop-n : goal.invariant-loop-n
invariant-loop-n l = lessened l._n l.fn.missing ≡ l.left
