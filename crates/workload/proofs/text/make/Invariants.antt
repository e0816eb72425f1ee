use Rattle.std.proofs.Common.{◌≡◌, ◌++◌, ◌-◌}
use Rattle.workload.specs.WorkloadText.{front, constants_text}
use Rattle.workload.proofs.text.make.Given as goal

abbrev pub invariant-loop-before : goal.invariant-loop-before
invariant-loop-before l = l.out.items ++ constants_text (l.fn.n - l.before) l.before l.x ≡ front ++ constants_text l.fn.n 0 l.fn.n
