use Rattle.std.proofs.Common.{◌≡◌, ◌-◌, ◌++◌, drop, map}
use Rattle.inductive_check.specs.Waiting.{waiting, constructors_waiting}
use Rattle.inductive_check.proofs.waiting.push_constructors.Given as goal

abbrev pub invariant-loop-i : goal.invariant-loop-i
invariant-loop-i l = map waiting l.tests.items ≡ map waiting l.fn.tests.items ++ constructors_waiting l.target (drop (l.count - l.i) l.ctors)
