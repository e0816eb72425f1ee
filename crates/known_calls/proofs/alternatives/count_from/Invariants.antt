use Rattle.std.proofs.Common.{◌≡◌, ◌+◌, ◌≤◌, drop}
use Rattle.closure_lift.specs.LiftedView.{branches_of}
use Rattle.known_calls.specs.KnownPushed.{count_of}
use Rattle.known_calls.proofs.alternatives.count_from.Given as goal

abbrev pub invariant-loop-c : goal.invariant-loop-c
invariant-loop-c l = record { all : l.count + count_of l.kind (branches_of (drop l.c l.bs)) ≡ count_of l.kind (branches_of (drop l.from l.bs)); few : l.count ≤ l.c }
