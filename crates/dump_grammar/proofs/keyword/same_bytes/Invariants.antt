use Rattle.std.proofs.Common.{◌≡◌, ◌≤◌, length, drop, ◌-◌}
use Rattle.std.specs.Prelude.{bytes_eq}
use Rattle.dump_grammar.proofs.keyword.same_bytes.Given as goal

abbrev pub invariant-loop-at : goal.invariant-loop-at
invariant-loop-at l = (l.at ≤ length l.word) × (length l.text ≡ length l.word) × (bytes_eq l.text l.word ≡ bytes_eq (drop l.at l.text) (drop l.at l.word))

abbrev pub decreases-loop-at : goal.decreases-loop-at
decreases-loop-at l = length l.word - l.at
