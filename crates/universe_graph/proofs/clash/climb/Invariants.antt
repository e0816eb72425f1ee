use Rattle.std.proofs.Common.{◌≡◌, ◌+◌, length}
use Rattle.universe_graph.proofs.clash.climb.Given as goal

abbrev pub invariant-loop-round : goal.invariant-loop-round
invariant-loop-round l = length l.raises.items ≡ l.levels + 1
