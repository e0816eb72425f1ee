use Rattle.std.proofs.Common.{◌≡◌, ◌≤◌, ◌-◌, length}
use Rattle.dump_reader.specs.Front.{front_length}
use Rattle.dump_reader.specs.CountedUpTo.{ends_from}
use Rattle.dump_reader.proofs.front.front_length.Given as goal

abbrev pub invariant-loop-place : goal.invariant-loop-place
invariant-loop-place l = record {
  within : l.place.at ≤ length l.bytes;
  nested : l.place.nesting ≤ 1000;
  ends : front_length l.bytes ≡ ends_from l.bytes l.place.nesting l.place.at;
}

abbrev pub decreases-loop-place : goal.decreases-loop-place
decreases-loop-place l = length l.bytes - l.place.at
