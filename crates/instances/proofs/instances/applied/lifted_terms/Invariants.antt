use Rattle.std.proofs.Common.{◌≡◌, map, take}
use Rattle.pc_terms.specs.Syntax.{shift}
use Rattle.instances.proofs.instances.applied.lifted_terms.Given as goal

abbrev pub invariant-loop-item : goal.invariant-loop-item
invariant-loop-item l = l.out ≡ map (shift l.count 0) (take l.item-index l.item-items)
