use Rattle.std.proofs.Common.{◌≡◌, take, map}
use Rattle.box_passes.specs.Saturate.{without_parameters}
use Rattle.box_passes.proofs.families.bare.Given as goal

abbrev pub invariant-loop-f : goal.invariant-loop-f
invariant-loop-f l = l.items.items ≡ map without_parameters (take l.f-index l.f-items)
