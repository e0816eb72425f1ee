use Rattle.std.proofs.Common.{take}
use Rattle.run_costs.specs.Costs.{AreUnder}
use Rattle.known_types.proofs.spending.all_under.Given as goal

abbrev pub invariant-loop-i : goal.invariant-loop-i
invariant-loop-i l = AreUnder (take l.i l.counts)
