use Rattle.std.proofs.Common.{◌≡◌, map, take}
use Rattle.universe_levels.specs.Parts.{raised}
use Rattle.universe_levels.proofs.universe.Universe.raise.Given as goal

abbrev pub invariant-loop-part : goal.invariant-loop-part
invariant-loop-part l = l.parts.items ≡ map raised (take l.part-index l.self)
