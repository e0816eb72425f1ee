use Rattle.std.proofs.Common.{◌≤◌, suc, take}
use Rattle.std.specs.List.{All}
use Rattle.universe_graph.specs.Spans.{chained, span}
use Rattle.universe_graph.proofs.cover.covers_part.Given as goal

abbrev pub invariant-loop-i : goal.invariant-loop-i
invariant-loop-i l = All (λ h. chained (suc h.add) (span l.rows l.part.level.0 h.level.0) ≤ l.part.add) (take l.i l.high)
