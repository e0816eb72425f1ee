use Rattle.std.proofs.Common.{◌≡◌, ◌++◌, ◌-◌}
use Rattle.shrink_passes.specs.DeadPlaces.{flag_at}
use Rattle.shrink_passes.specs.Pruned.{kept, variables}
use Rattle.shrink_passes.proofs.unwrapping.new_variables.Given as goal

abbrev pub invariant-loop-p : goal.invariant-loop-p
invariant-loop-p l = record {
  left : l.left ≡ kept (λ p. flag_at p l.dead) l.p (l.n - l.p);
  terms : l.terms ++ variables (λ p. flag_at p l.dead) l.p (l.n - l.p) ≡ variables (λ p. flag_at p l.dead) 0 l.n;
}
