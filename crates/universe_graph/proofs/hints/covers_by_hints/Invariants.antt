use Rattle.std.proofs.Common.{take}
use Rattle.universe_graph.specs.Spans.{span, IsCovered}
use Rattle.universe_graph.proofs.hints.covers_by_hints.Given as goal

abbrev pub invariant-loop-part : goal.invariant-loop-part
invariant-loop-part l = IsCovered (span l.rows) (take l.part-index l.low) l.high
