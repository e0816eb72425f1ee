use Rattle.std.proofs.Common.{◌≡◌, ◌-◌, length, drop, reverse, map}
use Rattle.closure_lift.specs.Lift.{held}
use Rattle.closure_lift.proofs.atoms.held_atoms.Given as goal

abbrev pub invariant-loop-past : goal.invariant-loop-past
invariant-loop-past l = reverse l.items.items ≡ map (held l.frame) (drop (length l.words - l.past) l.words)
