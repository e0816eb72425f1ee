use Rattle.std.proofs.Common.{◌≡◌, reverse, take}
use Rattle.known_calls.specs.KnownPlaces.{some_names}
use Rattle.known_calls.specs.KnownMarks.{also}
use Rattle.known_calls.proofs.marks.note_atoms.Given as goal

abbrev pub invariant-loop-a : goal.invariant-loop-a
invariant-loop-a l = reverse l.notes.items ≡ also (λ i. some_names i (reverse (take l.a-index l.a-items))) (reverse l.initial.notes.items)
