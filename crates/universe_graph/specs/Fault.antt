-- What a refusal of a graph says of the constraints.
use Rattle.std.specs.Prelude.{ℕ, List}
use Rattle.universe_levels.specs.declared.constraint.Constraint.{Constraint}
use Rattle.universe_levels.specs.Consistency.{IsConsistent}
use Rattle.universe_graph.specs.declared.graph.GraphFault.{GraphFault}
use Rattle.universe_graph.specs.declared.graph.GraphFault.TheVariants.{Cycle, Memory}
use Rattle.universe_graph.specs.Listed.{Clashes}

-- a cycle: no valuation meets all constraints, and the listed ones alone have none; want of memory says nothing
abbrev pub IsClash : ℕ → List Constraint → GraphFault → Type 0
IsClash levels cs (Cycle places) = Clashes levels cs places × (IsConsistent levels cs → ⊥)
IsClash levels cs Memory = Unit {0}
