use Rattle.std.proofs.Common.{◌≡◌, take, map}
use Rattle.box_passes.specs.Saturate.{saturate_constant}
use Rattle.box_passes.specs.Maps.{AreShallow}
use Rattle.box_passes.proofs.saturation.saturated_constants.Given as goal

abbrev pub invariant-loop-d : goal.invariant-loop-d
invariant-loop-d l = record {
  items_are : l.items.items ≡ map (saturate_constant l.fs) (take l.d-index l.d-items);
  shallow : AreShallow l.items.items;
}
