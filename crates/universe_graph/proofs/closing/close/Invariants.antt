use Rattle.std.proofs.Common.{◌≡◌, ℕ, ◌+◌, ◌<◌, ◌≤◌, length}
use Rattle.universe_graph.specs.Spans.{span, IsSquare, SpansAreWithin}
use Rattle.universe_graph.specs.Closure.{Follows, IsClosedAt}
use Rattle.universe_graph.proofs.closing.close.Given as goal

abbrev pub invariant-loop-level : goal.invariant-loop-level
invariant-loop-level l = record {
  limit : l.limit ≡ l.levels + 2;
  height : length l.rows.items ≡ l.levels + 1;
  next : length l.next ≡ l.levels + 1;
  square : IsSquare l.rows.items;
  itself : (i : ℕ) → i ≤ l.levels → 1 ≤ span l.rows.items i i;
  more : (i j : ℕ) → span l.initial.rows.items i j ≤ span l.rows.items i j;
  follows : (v : ℕ → ℕ) → Follows v (span l.initial.rows.items) → Follows v (span l.rows.items);
  closed : (m : ℕ) → m < l.level → IsClosedAt l.levels (span l.rows.items) m;
  within : SpansAreWithin l.limit l.rows.items;
}
