use Rattle.std.proofs.Common.{◌≡◌, ◌++◌, drop, reverse}
use Rattle.closure_lift.specs.LiftedView.{bounds_of}
use Rattle.closure_lift.specs.Lifting.{closures_frame, closures_code}
use Rattle.closure_lift.proofs.atoms.make_closures.Given as goal

abbrev pub invariant-loop-past : goal.invariant-loop-past
invariant-loop-past l = record {
  frame : closures_frame l.variables.0 l.frame (drop l.past (reverse l.items)) ≡ closures_frame l.variables.0 l.initial.frame (reverse l.items);
  code : bounds_of l.code.items ++ closures_code l.variables.0 l.variables.1 l.frame (drop l.past (reverse l.items)) ≡ bounds_of l.initial.code.items ++ closures_code l.variables.0 l.variables.1 l.initial.frame (reverse l.items);
}
