use Rattle.std.proofs.Common.{◌≡◌, ℕ, ◌+◌, ◌<◌, ◌≤◌, true, false, length, get_or}
use Rattle.universe_graph.specs.Listed.{MeetsAt}
use Rattle.universe_graph.proofs.clash.retrace.Given as goal

abbrev pub invariant-loop-i : goal.invariant-loop-i
invariant-loop-i l = record {
  start : l.start ≤ l.levels;
  level : l.level ≤ l.levels;
  gain : l.gain ≤ l._i;
  as_long : length l.used.items ≡ length l.constraints;
  follows : (v : ℕ → ℕ) → ((k : ℕ) → k < length l.used.items → get_or l.used.items k false ≡ true → MeetsAt v l.constraints k) → v l.level + l.gain ≤ v l.start;
}
