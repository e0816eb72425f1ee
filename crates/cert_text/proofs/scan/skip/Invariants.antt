use Rattle.std.proofs.Common.{◌≡◌, ◌≤◌, length, drop, ◌-◌, false}
use Rattle.sexp_reader.specs.Lex.{lex}
use Rattle.cert_text.proofs.scan.skip.Given as goal

abbrev pub invariant-loop-at : goal.invariant-loop-at
invariant-loop-at l = (l.at ≤ length l.bytes) × (l.from ≤ l.at) × (lex l.from false (drop l.from l.bytes) ≡ lex l.at l.in_comment (drop l.at l.bytes))

abbrev pub decreases-loop-at : goal.decreases-loop-at
decreases-loop-at l = length l.bytes - l.at
