use Rattle.std.proofs.Common.{◌≡◌}
use Rattle.anf_convert.specs.Captured.{plains}
use Rattle.closure_lift.specs.Lift.{unnumbered, holding}
use Rattle.closure_lift.proofs.lift.push_words.Given as goal

abbrev pub invariant-loop-i : goal.invariant-loop-i
invariant-loop-i l = record {
  variables : l.variables ≡ (plains l._i l.initial.variables.0, unnumbered l._i l.initial.variables.1);
  frame : l.frame ≡ holding l._i l.initial.variables.0 l.initial.frame;
}
