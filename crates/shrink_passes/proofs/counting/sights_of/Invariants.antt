use Rattle.std.proofs.Common.{◌≡◌, ℕ, drop, None}
use Rattle.std.specs.Prelude.{nat_eq}
use Rattle.std.specs.HashMap.{get}
use Rattle.shrink_passes.specs.Sights.{sight_constants}
use Rattle.shrink_passes.proofs.counting.sights_of.Given as goal

abbrev pub invariant-loop-d : goal.invariant-loop-d
invariant-loop-d l = (k : ℕ) → sight_constants k (drop l.d-index l.d-items) (get nat_eq l.sights k) ≡ sight_constants k l.d-items None
