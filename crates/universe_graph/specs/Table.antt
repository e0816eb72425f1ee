-- What the table of spans of a graph keeps.
use Rattle.std.specs.Prelude.{◌≡◌, ℕ, ◌+◌, List, length}
use Rattle.universe_levels.specs.declared.constraint.Constraint.{Constraint}
use Rattle.universe_levels.specs.Consistency.{AreOver}
use Rattle.universe_graph.specs.Spans.{span, IsSquare}
use Rattle.universe_graph.specs.Closure.{IsClosed}

pub record IsTable (levels : ℕ) (cs : List Constraint) (rows : List (List ℕ)) : Type 0 where
  pub over : AreOver levels cs
  pub height : length rows ≡ levels + 1
  pub square : IsSquare rows
  pub closed : IsClosed levels cs (span rows)
