use Rattle.std.proofs.Common.{◌≡◌, ◌≤◌, length, drop, ◌-◌, true}
use Rattle.sexp_reader.specs.Lex.{lex}
use Rattle.sexp_reader.proofs.comment_end.Given as goal

abbrev pub invariant-loop-at : goal.invariant-loop-at
invariant-loop-at l = (l.from ≤ l.at) × (l.at ≤ length l.bytes) × (lex l.from true (drop l.from l.bytes) ≡ lex l.at true (drop l.at l.bytes))

abbrev pub decreases-loop-at : goal.decreases-loop-at
decreases-loop-at l = length l.bytes - l.at
