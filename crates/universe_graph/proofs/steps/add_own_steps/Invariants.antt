use Rattle.std.proofs.Common.{◌≡◌, ℕ, ◌<◌, ◌≤◌, length}
use Rattle.universe_graph.specs.Spans.{span, IsSquare, SpansAreWithin}
use Rattle.universe_graph.specs.Closure.{Follows}
use Rattle.universe_graph.proofs.steps.add_own_steps.Given as goal

abbrev pub invariant-loop-i : goal.invariant-loop-i
invariant-loop-i l = record {
  height : length l.rows.items ≡ length l.initial.rows.items;
  square : IsSquare l.rows.items;
  more : (i j : ℕ) → span l.initial.rows.items i j ≤ span l.rows.items i j;
  steps : (k : ℕ) → k < l.i → 1 ≤ span l.rows.items k k;
  follows : (v : ℕ → ℕ) → Follows v (span l.initial.rows.items) → Follows v (span l.rows.items);
  small : SpansAreWithin 2 l.initial.rows.items → SpansAreWithin 2 l.rows.items;
}
