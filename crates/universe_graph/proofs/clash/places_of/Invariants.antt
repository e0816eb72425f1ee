use Rattle.std.proofs.Common.{◌≡◌, ℕ, ◌<◌, true, false, get_or}
use Rattle.std.specs.List.{All, Contains}
use Rattle.std.specs.List.Sorted.{IsStrictlyIncreasing}
use Rattle.universe_graph.proofs.clash.places_of.Given as goal

abbrev pub invariant-loop-i : goal.invariant-loop-i
invariant-loop-i l = record {
  rising : IsStrictlyIncreasing l.places.items;
  within : All (λ k. k < l.i) l.places.items;
  all : (k : ℕ) → k < l.i → get_or l.marks k false ≡ true → Contains l.places.items k;
}
