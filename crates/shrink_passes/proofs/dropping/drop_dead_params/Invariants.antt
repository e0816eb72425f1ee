use Rattle.std.proofs.Common.{◌≡◌, [], drop}
use Rattle.std.specs.Prelude.{nat_eq}
use Rattle.std.specs.HashMap.{get}
use Rattle.shrink_passes.specs.DeadPlaces.{is_place}
use Rattle.shrink_passes.proofs.DropStages.{through, AreReady}
use Rattle.shrink_passes.proofs.dropping.drop_dead_params.Given as goal

abbrev pub invariant-loop-d : goal.invariant-loop-d
invariant-loop-d l =
    (through (is_place (get nat_eq l.table)) (drop l.d-index l.d-items) l.constants ≡ through (is_place (get nat_eq l.table)) l.d-items []) × AreReady (is_place (get nat_eq l.table)) (drop l.d-index l.d-items)
