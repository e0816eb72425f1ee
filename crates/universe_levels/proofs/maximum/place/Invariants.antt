use Rattle.std.proofs.Common.{ℕ, ◌-◌, ◌<◌, ◌≤◌, length}
use Rattle.universe_levels.specs.Places.{level_at}
use Rattle.universe_levels.proofs.maximum.place.Given as goal

abbrev pub invariant-loop-low : goal.invariant-loop-low
invariant-loop-low l = record {
  ordered : l.low ≤ l.high;
  bound : l.high ≤ length l.parts;
  lesser : (k : ℕ) → k < l.low → level_at l.parts k < l.level.0;
  others : (k : ℕ) → l.high ≤ k → k < length l.parts → l.level.0 ≤ level_at l.parts k;
}

abbrev pub decreases-loop-low : goal.decreases-loop-low
decreases-loop-low l = l.high - l.low
