use Rattle.std.proofs.Common.{◌≡◌, ◌≤◌, ◌+◌, true}
use Rattle.dump_reader.specs.CountedUpTo.{CountsWhole}
use Rattle.dump_reader.proofs.blocks.look.Given as goal

abbrev pub invariant-loop-b : goal.invariant-loop-b
invariant-loop-b l = record {
  few : l.opens + l.closes ≤ l.b-index;
  passes : l.plain ≡ true → CountsWhole l.bytes l.at l.b-index l.opens l.closes;
}
