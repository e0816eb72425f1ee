use Rattle.std.proofs.Common.{◌≡◌, take}
use Rattle.universe_levels.proofs.universe.Universe.same.Given as goal

abbrev pub invariant-loop-i : goal.invariant-loop-i
invariant-loop-i l = take l.i l.self-inside.parts.items ≡ take l.i l.other-inside.parts.items
