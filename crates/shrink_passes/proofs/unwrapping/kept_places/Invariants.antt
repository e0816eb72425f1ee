use Rattle.std.proofs.Common.{◌≡◌, ◌≤◌, ◌+◌, ◌-◌}
use Rattle.shrink_passes.specs.DeadPlaces.{flag_at}
use Rattle.shrink_passes.specs.Pruned.{kept}
use Rattle.shrink_passes.proofs.unwrapping.kept_places.Given as goal

abbrev pub invariant-loop-p : goal.invariant-loop-p
invariant-loop-p l = record {
  counted : l.count + kept (λ p. flag_at p l.dead) l.p (l.n - l.p) ≡ kept (λ p. flag_at p l.dead) 0 l.n;
  few : l.count ≤ l.p;
}
