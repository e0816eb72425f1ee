use Rattle.std.proofs.Common.{◌≡◌, ◌++◌, drop, reverse}
use Rattle.closure_lift.specs.NamedLift.{bodies, constants_notes}
use Rattle.closure_lift.proofs.convert.note_program.Given as goal

abbrev pub invariant-loop-past : goal.invariant-loop-past
invariant-loop-past l = l.notes.items ++ constants_notes (bodies (drop l.past (reverse l.constants))) ≡ constants_notes (bodies (reverse l.constants))
