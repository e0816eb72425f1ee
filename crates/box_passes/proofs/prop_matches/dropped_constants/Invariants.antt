use Rattle.std.proofs.Common.{◌≡◌, take, map}
use Rattle.box_passes.specs.PropMatch.{drop_matches_constant}
use Rattle.box_passes.proofs.prop_matches.dropped_constants.Given as goal

abbrev pub invariant-loop-d : goal.invariant-loop-d
invariant-loop-d l = l.items.items ≡ map (drop_matches_constant l.fs) (take l.d-index l.d-items)
