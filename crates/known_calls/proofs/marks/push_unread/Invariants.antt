use Rattle.std.proofs.Common.{◌≡◌, ◌++◌, reverse, replicate}
use Rattle.known_calls.specs.KnownPlaces.{Never}
use Rattle.known_calls.proofs.marks.push_unread.Given as goal

abbrev pub invariant-loop : goal.invariant-loop
invariant-loop l = reverse l.notes.items ≡ replicate l.counter Never ++ reverse l.initial.notes.items
