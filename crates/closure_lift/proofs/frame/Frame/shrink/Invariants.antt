use Rattle.std.proofs.Common.{◌≡◌, drop}
use Rattle.closure_lift.proofs.frame.Frame.shrink.Given as goal

abbrev pub invariant-loop-i : goal.invariant-loop-i
invariant-loop-i l = l.self ≡ drop l._i l.initial.self
