use Rattle.std.proofs.Common.{◌≡◌, reverse, take}
use Rattle.known_calls.specs.KnownPlaces.{all_at}
use Rattle.known_calls.proofs.closures.places_at.Given as goal

abbrev pub invariant-loop-w : goal.invariant-loop-w
invariant-loop-w l = reverse l.places.items ≡ all_at (reverse (take l.w-index l.w-items))
