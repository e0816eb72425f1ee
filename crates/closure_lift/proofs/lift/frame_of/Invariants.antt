use Rattle.std.proofs.Common.{◌≡◌, ◌-◌, length, drop, map}
use Rattle.closure_lift.specs.Lift.{Holds}
use Rattle.closure_lift.proofs.lift.frame_of.Given as goal

abbrev pub invariant-loop-past : goal.invariant-loop-past
invariant-loop-past l = l.frame ≡ map (λ x. Holds x) (drop (length l.words - l.past) l.words)
