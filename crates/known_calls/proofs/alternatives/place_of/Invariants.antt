use Rattle.std.proofs.Common.{◌≡◌, ◌≤◌, take}
use Rattle.closure_lift.specs.LiftedView.{branches_of}
use Rattle.known_calls.specs.KnownPushed.{count_of}
use Rattle.known_calls.proofs.alternatives.place_of.Given as goal

abbrev pub invariant-loop-c : goal.invariant-loop-c
invariant-loop-c l = record { seen : l.seen ≡ count_of l.kind (branches_of (take l.c l.bs)); few : l.seen ≤ l.before }
