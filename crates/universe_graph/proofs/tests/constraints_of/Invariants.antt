use Rattle.universe_levels.specs.Consistency.{AreOver}
use Rattle.universe_graph.proofs.tests.constraints_of.Given as goal

abbrev pub invariant-loop-triple : goal.invariant-loop-triple
invariant-loop-triple l = AreOver l.levels l.constraints.items
