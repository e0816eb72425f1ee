use Rattle.std.proofs.Common.{◌≡◌, Some, reverse, take}
use Rattle.known_calls.specs.KnownPlaces.{words_of}
use Rattle.known_calls.proofs.closures.words_of.Given as goal

abbrev pub invariant-loop-a : goal.invariant-loop-a
invariant-loop-a l = words_of (reverse l.places) (reverse (take l.a-index l.a-items)) ≡ Some (reverse l.words.items)
