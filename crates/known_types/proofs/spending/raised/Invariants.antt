use Rattle.run_costs.specs.Costs.{differences}
use Rattle.known_types.specs.Raising.{IsPart}
use Rattle.known_types.proofs.spending.raised.Given as goal

abbrev pub invariant-loop-i : goal.invariant-loop-i
invariant-loop-i l = IsPart l.i (differences l.after l.before) l.counts l.uses
