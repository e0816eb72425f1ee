use Rattle.std.proofs.Common.{◌≡◌, ◌++◌, drop, map}
use Rattle.closure_lift.specs.LiftedProgram.{lifted_of}
use Rattle.wasm_core.specs.ModuleCondition.{All}
use Rattle.known_calls.specs.KnownModule.{constant}
use Rattle.wasm_emit.specs.EmittedBodies.{FewInBlock}
use Rattle.wasm_emit.proofs.Listed.{constants_in}
use Rattle.known_calls.proofs.bodies.push_constants.Given as goal

abbrev pub invariant-loop-k : goal.invariant-loop-k
invariant-loop-k l = record {
  pushed : l.bodies.items ++ map (constant (lifted_of l.p)) (constants_in l.p (drop l.k l.p.constants)) ≡ l.initial.bodies.items ++ map (constant (lifted_of l.p)) ((lifted_of l.p).constants);
  few : All FewInBlock (constants_in l.p (drop l.k l.p.constants)) → All FewInBlock ((lifted_of l.p).constants);
  only : All FewInBlock ((lifted_of l.p).constants) → All FewInBlock (constants_in l.p (drop l.k l.p.constants));
}
