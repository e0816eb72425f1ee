use Rattle.std.proofs.Common.{◌≡◌, drop}
use Rattle.closure_lift.specs.Variables.{outer}
use Rattle.closure_lift.proofs.variables.Variables.forget.Given as goal

abbrev pub invariant-loop-i : goal.invariant-loop-i
invariant-loop-i l = l.self ≡ (outer l._i l.initial.self.0, drop l._i l.initial.self.1)
