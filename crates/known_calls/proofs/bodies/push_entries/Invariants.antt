use Rattle.std.proofs.Common.{◌≡◌, ◌++◌, drop}
use Rattle.closure_lift.specs.LiftedProgram.{lifted_of}
use Rattle.wasm_core.specs.ModuleCondition.{All}
use Rattle.wasm_emit.specs.EmittedBodies.{FewInFunction}
use Rattle.wasm_emit.proofs.Listed.{functions_in}
use Rattle.known_calls.specs.KnownModule.{entry, numbered}
use Rattle.known_calls.proofs.bodies.push_entries.Given as goal

abbrev pub invariant-loop-g : goal.invariant-loop-g
invariant-loop-g l = record {
  pushed : l.bodies.items ++ numbered (entry (lifted_of l.p)) l.g (functions_in l.p (drop l.g l.functions)) ≡ l.initial.bodies.items ++ numbered (entry (lifted_of l.p)) 0 ((lifted_of l.p).functions);
  only : All FewInFunction ((lifted_of l.p).functions) → All FewInFunction (functions_in l.p (drop l.g l.functions));
}
