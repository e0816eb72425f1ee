-- What an effect does at a place of the pass.
use Rattle.std.specs.Prelude.{Option, Some}
use Rattle.wasm_core.specs.MachineStep.{on_some}
use Rattle.wasm_core.specs.ModuleTyping.{Effect}
use Rattle.wasm_core.specs.Pass.{Place, Check, More, off, put_on}

-- the effect's operands are taken off, and its results put on; there is no step without an effect
abbrev pub applied : Option Effect → Place → Option Check
applied o a = on_some o (λ e. on_some (off e.0 a.now) (λ k. Some (More (record a { now = put_on e.1 k }))))
