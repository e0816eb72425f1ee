use Rattle.wasm_core.specs.ModuleTyping.{AllSound}
use Rattle.wasm_core.specs.FirstFault.{TypedBelow}
use Rattle.wasm_validate.proofs.validation.first_fault.Given as goal

abbrev pub invariant-loop-func : goal.invariant-loop-func
invariant-loop-func l = record { sound : AllSound l.m; typed : TypedBelow l.m l.func }
