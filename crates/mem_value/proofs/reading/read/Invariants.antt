use Rattle.std.proofs.Common.{◌≡◌, length, reverse}
use Rattle.mem_value.specs.Waiting.{IsReading}
use Rattle.mem_value.proofs.reading.read.Given as goal

abbrev pub invariant-loop-made : goal.invariant-loop-made
invariant-loop-made l = (l._made ≡ length l.nodes.items) × IsReading l.memory l.word l.nodes.items (reverse l.waiting.items)
