use Rattle.std.proofs.Common.{◌≡◌, ℕ, ◌≤◌, length, take}
use Rattle.std.specs.List.{All}
use Rattle.universe_levels.specs.Valuation.{Meets}
use Rattle.universe_graph.specs.Spans.{span, IsSquare, SpansAreWithin}
use Rattle.universe_graph.specs.Closure.{Follows, StepsIn}
use Rattle.universe_graph.proofs.steps.add_constraints.Given as goal

abbrev pub invariant-loop-constraint : goal.invariant-loop-constraint
invariant-loop-constraint l = record {
  height : length l.rows.items ≡ length l.initial.rows.items;
  square : IsSquare l.rows.items;
  more : (i j : ℕ) → span l.initial.rows.items i j ≤ span l.rows.items i j;
  steps : All (λ c. StepsIn (span l.rows.items) c.relation c.left.0 c.right.0) (take l.constraint-index l.constraints);
  follows : (v : ℕ → ℕ) → All (Meets v) l.constraints → Follows v (span l.initial.rows.items) → Follows v (span l.rows.items);
  small : SpansAreWithin 2 l.initial.rows.items → SpansAreWithin 2 l.rows.items;
}
