-- What a graph is seen as: the number of its declared levels, and its constraints.
use Rattle.std.specs.Prelude.{ℕ, List}
use Rattle.universe_levels.specs.declared.constraint.Constraint.{Constraint}

pub record Constrained : Type 0 where
  pub levels : ℕ
  pub constraints : List Constraint
