use Rattle.std.proofs.Common.{◌≡◌, ◌-◌, ◌++◌, drop, map}
use Rattle.inductive_check.specs.Waiting.{waiting, types_waiting}
use Rattle.inductive_check.proofs.waiting.push_types.Given as goal

abbrev pub invariant-loop-i : goal.invariant-loop-i
invariant-loop-i l = map waiting l.tests.items ≡ map waiting l.fn.tests.items ++ types_waiting l.target (l.count - l.i) (drop (l.count - l.i) l.args)
