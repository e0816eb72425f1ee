use Rattle.std.proofs.Common.{◌≡◌, ◌≤◌, length, drop, ◌-◌, ◌+◌}
use Rattle.sexp_reader.specs.Lex.{atom_len}
use Rattle.dump_reader.proofs.front.atom_end.Given as goal

abbrev pub invariant-loop-at : goal.invariant-loop-at
invariant-loop-at l = (l.at ≤ length l.bytes) × (l.from + atom_len (drop l.from l.bytes) ≡ l.at + atom_len (drop l.at l.bytes))

abbrev pub decreases-loop-at : goal.decreases-loop-at
decreases-loop-at l = length l.bytes - l.at
