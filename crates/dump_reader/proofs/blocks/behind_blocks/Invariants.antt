use Rattle.std.proofs.Common.{◌≤◌, ◌<◌, ◌-◌, length}
use Rattle.dump_reader.specs.CountedUpTo.{ends_from, CountedUpTo, SameFront}
use Rattle.dump_reader.proofs.blocks.behind_blocks.Given as goal

abbrev pub invariant-loop-at : goal.invariant-loop-at
invariant-loop-at l = record {
  within : l.at ≤ length l.bytes;
  inside : 0 < l.nesting;
  nested : l.nesting ≤ 1000;
  few : l.size ≤ 255;
  goes : SameFront l.bytes l.fn.from l.settled;
  reached : l.settled.at ≤ l.at;
  counted : CountedUpTo l.bytes (ends_from l.bytes l.fn.from.nesting l.fn.from.at) l.nesting l.at l.size;
}

abbrev pub decreases-loop-at : goal.decreases-loop-at
decreases-loop-at l = length l.bytes - l.at
