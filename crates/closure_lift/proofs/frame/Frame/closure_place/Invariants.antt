use Rattle.std.proofs.Common.{◌≡◌, ◌+◌, drop, reverse}
use Rattle.closure_lift.specs.Lift.{Made, position}
use Rattle.closure_lift.specs.Frames.{slots_of}
use Rattle.closure_lift.proofs.frame.Frame.closure_place.Given as goal

abbrev pub invariant-loop-past : goal.invariant-loop-past
invariant-loop-past l = position (Made l.i) (slots_of (reverse l.self-inside.held.items)) ≡ l.past + position (Made l.i) (slots_of (drop l.past (reverse l.self-inside.held.items)))
