use Rattle.std.proofs.Common.{◌≤◌}
use Rattle.universe_graph.proofs.clash.turning_point.Given as goal

abbrev pub invariant-loop-i : goal.invariant-loop-i
invariant-loop-i l = l.level ≤ l.levels
