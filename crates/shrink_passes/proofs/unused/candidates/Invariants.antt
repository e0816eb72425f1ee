use Rattle.std.proofs.Common.{◌≡◌, ℕ, drop, false}
use Rattle.std.specs.Prelude.{nat_eq}
use Rattle.std.specs.HashMap.{get}
use Rattle.shrink_passes.specs.DeadPlaces.{is_place, is_candidate}
use Rattle.shrink_passes.proofs.unused.candidates.Given as goal

abbrev pub invariant-loop-d : goal.invariant-loop-d
invariant-loop-d l = (k q : ℕ) → is_candidate k q (drop l.d-index l.d-items) (is_place (get nat_eq l.table) k q) ≡ is_candidate k q l.d-items false
