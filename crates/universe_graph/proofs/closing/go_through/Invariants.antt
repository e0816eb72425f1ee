use Rattle.std.proofs.Common.{◌≡◌, ◌↔◌, ℕ, ◌<◌, ◌≤◌, length}
use Rattle.universe_graph.specs.Spans.{span, through, IsSquare}
use Rattle.universe_graph.proofs.closing.go_through.Given as goal

abbrev pub invariant-loop-i : goal.invariant-loop-i
invariant-loop-i l = record {
  height : length l.rows.items ≡ length l.initial.rows.items;
  square : IsSquare l.rows.items;
  done : (k j : ℕ) → k < l.i → span l.rows.items k j ≡ through (span l.initial.rows.items) l.level k j;
  rest : (k j : ℕ) → l.i ≤ k → span l.rows.items k j ≡ span l.initial.rows.items k j;
  within : (l.largest ≤ l.limit) ↔ ((k j : ℕ) → k < l.i → span l.rows.items k j ≤ l.limit);
}
