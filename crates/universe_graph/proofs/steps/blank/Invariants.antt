use Rattle.std.proofs.Common.{◌≡◌, replicate}
use Rattle.universe_graph.proofs.steps.blank.Given as goal

abbrev pub invariant-loop-i : goal.invariant-loop-i
invariant-loop-i l = l.rows.items ≡ replicate l._i (replicate l.width 0)
