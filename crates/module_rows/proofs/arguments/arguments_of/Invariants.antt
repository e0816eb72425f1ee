use Rattle.wasm_core.specs.ModuleCondition.{All as Each}
use Rattle.mem_value.specs.Storing.{IsSmallData}
use Rattle.module_rows.proofs.arguments.arguments_of.Given as goal

abbrev pub invariant-loop-field : goal.invariant-loop-field
invariant-loop-field l = Each IsSmallData l.arguments.items
