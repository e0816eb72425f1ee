-- What one instruction did to a checker.
use Rattle.std.specs.Prelude.{Option, Some, None}
use Rattle.wasm_validate.specs.declared.checker.Progress.{Progress}
use Rattle.wasm_validate.specs.declared.checker.Progress.TheVariants.{Goes, Ends, Stuck}
use Rattle.wasm_core.specs.Pass.{Place, Check, More, Finished}

-- the pass goes on at this place, is at the body's own end, or has no step
abbrev pub shows : Progress → Place → Option Check
shows Goes a = Some (More a)
shows Ends a = Some Finished
shows Stuck a = None
