use Rattle.std.proofs.Common.{◌≡◌, ◌≤◌, length, drop, ◌-◌}
use Rattle.std.specs.Prelude.{bytes_eq}
use Rattle.dump_reader.proofs.names.same_bytes.Given as goal

abbrev pub invariant-loop-at : goal.invariant-loop-at
invariant-loop-at l = (l.at ≤ length l.text) × (length l.text ≡ length l.other) × (bytes_eq l.text l.other ≡ bytes_eq (drop l.at l.text) (drop l.at l.other))

abbrev pub decreases-loop-at : goal.decreases-loop-at
decreases-loop-at l = length l.text - l.at
