use Rattle.wasm_core.specs.ModuleCondition.{All as Each}
use Rattle.mem_value.specs.Storing.{IsSmallData}
use Rattle.closure_rows.proofs.calls.arguments_of.Given as goal

abbrev pub invariant-loop-word : goal.invariant-loop-word
invariant-loop-word l = Each IsSmallData l.arguments.items
