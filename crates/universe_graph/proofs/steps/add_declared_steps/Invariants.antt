use Rattle.std.proofs.Common.{◌≡◌, ℕ, ◌<◌, ◌≤◌, length}
use Rattle.universe_graph.specs.Spans.{span, IsSquare, SpansAreWithin}
use Rattle.universe_graph.specs.Closure.{Follows}
use Rattle.universe_graph.proofs.steps.add_declared_steps.Given as goal

abbrev pub invariant-loop-level : goal.invariant-loop-level
invariant-loop-level l = record {
  height : length l.rows.items ≡ length l.initial.rows.items;
  square : IsSquare l.rows.items;
  more : (i j : ℕ) → span l.initial.rows.items i j ≤ span l.rows.items i j;
  steps : (k : ℕ) → 1 ≤ k → k < l.level → 2 ≤ span l.rows.items 0 k;
  follows : (v : ℕ → ℕ) → ((k : ℕ) → 1 ≤ k → k < length l.initial.rows.items → v 0 < v k) → Follows v (span l.initial.rows.items) → Follows v (span l.rows.items);
  small : SpansAreWithin 2 l.initial.rows.items → SpansAreWithin 2 l.rows.items;
}
