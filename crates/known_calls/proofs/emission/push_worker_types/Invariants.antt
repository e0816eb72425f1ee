use Rattle.std.proofs.Common.{◌≡◌, ◌++◌, drop}
use Rattle.closure_lift.specs.LiftedProgram.{lifted_of}
use Rattle.wasm_emit.proofs.Listed.{functions_in}
use Rattle.known_calls.specs.KnownEmission.{worker_types}
use Rattle.known_calls.proofs.emission.push_worker_types.Given as goal

abbrev pub invariant-loop-f : goal.invariant-loop-f
invariant-loop-f l = l.items.items ++ worker_types (functions_in l.p (drop l.f-index l.f-items)) ≡ l.initial.items.items ++ worker_types ((lifted_of l.p).functions)
