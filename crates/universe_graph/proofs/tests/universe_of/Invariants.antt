use Rattle.universe_levels.specs.Consistency.{IsOver}
use Rattle.universe_graph.proofs.tests.universe_of.Given as goal

abbrev pub invariant-loop-pair : goal.invariant-loop-pair
invariant-loop-pair l = IsOver l.levels l.parts.items
