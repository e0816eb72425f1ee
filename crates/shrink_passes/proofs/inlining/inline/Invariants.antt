use Rattle.std.proofs.Common.{drop}
use Rattle.std.specs.Prelude.{nat_eq}
use Rattle.std.specs.HashMap.{get}
use Rattle.shrink_passes.proofs.Table.{Looped}
use Rattle.shrink_passes.proofs.inlining.inline.Given as goal

abbrev pub invariant-loop-d : goal.invariant-loop-d
invariant-loop-d l = Looped l.p (get nat_eq l.sights) l.greatest (get nat_eq l.bodies) l.constants (drop l.d-index l.d-items)
