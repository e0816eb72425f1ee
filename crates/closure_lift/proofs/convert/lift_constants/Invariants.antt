use Rattle.std.proofs.Common.{drop, reverse}
use Rattle.closure_lift.proofs.Converting.{ConstantsGo}
use Rattle.closure_lift.proofs.convert.lift_constants.Given as goal

abbrev pub invariant-loop-past : goal.invariant-loop-past
invariant-loop-past l = ConstantsGo l.notes l.initial.functions.items (reverse l.constants) l.functions.items l.items.items (drop l.past (reverse l.constants))
