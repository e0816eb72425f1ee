use Rattle.std.proofs.Common.{◌≡◌, reverse, take, length}
use Rattle.known_calls.specs.KnownPlaces.{fields_of}
use Rattle.known_calls.proofs.places.push_field_places.Given as goal

abbrev pub invariant-loop-k : goal.invariant-loop-k
invariant-loop-k l = (reverse l.places.items ≡ fields_of l.x l.k (reverse l.initial.places.items)) × (take (length l.initial.places.items) l.places.items ≡ l.initial.places.items)
