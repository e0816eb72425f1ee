use Rattle.std.proofs.Common.{◌≡◌, drop}
use Rattle.std.specs.Prelude.{max}
use Rattle.closure_lift.specs.LiftedProgram.{lifted_of}
use Rattle.wasm_emit.proofs.Listed.{functions_in}
use Rattle.known_calls.specs.KnownModule.{widest_worker}
use Rattle.known_calls.proofs.emission.widest_worker.Given as goal

abbrev pub invariant-loop-f : goal.invariant-loop-f
invariant-loop-f l = max l.most (widest_worker (functions_in l.p (drop l.f-index l.f-items))) ≡ widest_worker ((lifted_of l.p).functions)
