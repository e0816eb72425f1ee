use Rattle.std.proofs.Common.{◌≡◌, ◌++◌, reverse}
use Rattle.known_calls.specs.KnownModule.{params}
use Rattle.known_calls.proofs.places.push_params.Given as goal

abbrev pub invariant-loop-x : goal.invariant-loop-x
invariant-loop-x l = reverse l.places.items ≡ params l.x ++ reverse l.initial.places.items
