use Rattle.std.proofs.Common.{subst}
use Rattle.universe_levels.specs.Consistency.{IsConsistent}
use Rattle.universe_graph.specs.Constrained.{Constrained}
use Rattle.universe_graph.specs.Spans.{span}
use Rattle.universe_graph.proofs.Refuting.{closed-consistent}
use Rattle.universe_graph.proofs.graph.Graph.constraints.Goals as goal

pub returns-clause-consistent : goal.returns-clause-consistent
returns-clause-consistent c =
    let P : Constrained → Type 0 = λ g. IsConsistent g.levels g.constraints in
    subst P c.self.view_is (closed-consistent c.self.inside.table.value.levels c.self.inside.table.value.constraints.items (span c.self.inside.table.value.rows.items) c.self.invariant.over c.self.invariant.closed)
