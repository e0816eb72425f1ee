use Rattle.std.proofs.Common.{◌≡◌}
use Rattle.anf_convert.specs.Captured.{shares}
use Rattle.closure_lift.specs.Lift.{numbered}
use Rattle.closure_lift.proofs.variables.push_fixes.Given as goal

abbrev pub invariant-loop-i : goal.invariant-loop-i
invariant-loop-i l = l.variables ≡ (shares l.words.value l.i l.initial.variables.0, numbered l.number l.i l.initial.variables.1)
