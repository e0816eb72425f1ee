use Rattle.std.proofs.Common.{◌≡◌, ◌-◌, ◌++◌, drop, map}
use Rattle.inductive_check.specs.Waiting.{waiting, families_waiting}
use Rattle.inductive_check.proofs.waiting.push_families.Given as goal

abbrev pub invariant-loop-i : goal.invariant-loop-i
invariant-loop-i l = map waiting l.tests.items ≡ map waiting l.fn.tests.items ++ families_waiting l.target (drop (l.count - l.i) l.families)
