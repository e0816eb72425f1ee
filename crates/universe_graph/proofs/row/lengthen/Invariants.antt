use Rattle.std.proofs.Common.{◌≡◌, ℕ, ◌<◌, ◌≤◌, max, get_or}
use Rattle.universe_graph.specs.Spans.{chained}
use Rattle.universe_graph.proofs.row.lengthen.Given as goal

abbrev pub invariant-loop-j : goal.invariant-loop-j
invariant-loop-j l = record {
  done : (k : ℕ) → k < l.j → get_or l.spans k 0 ≡ max (get_or l.initial.spans k 0) (chained l.by (get_or l.next k 0));
  rest : (k : ℕ) → l.j ≤ k → get_or l.spans k 0 ≡ get_or l.initial.spans k 0;
  bound : (k : ℕ) → k < l.j → get_or l.spans k 0 ≤ l.largest;
  least : (n : ℕ) → ((k : ℕ) → k < l.j → get_or l.spans k 0 ≤ n) → l.largest ≤ n;
}
