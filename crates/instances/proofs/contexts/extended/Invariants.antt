use Rattle.std.proofs.Common.{◌≡◌, take}
use Rattle.calculus_rules.specs.Context.{extend}
use Rattle.instances.proofs.contexts.extended.Given as goal

abbrev pub invariant-loop-i : goal.invariant-loop-i
invariant-loop-i l = l.out ≡ extend l.ctx (take l.i l.items)
