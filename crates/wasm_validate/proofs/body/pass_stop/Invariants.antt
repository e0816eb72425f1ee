use Rattle.std.proofs.Common.{◌≡◌, ◌++◌, drop}
use Rattle.wasm_core.specs.ModuleTyping.{results_of}
use Rattle.wasm_core.specs.Pass.{outset}
use Rattle.wasm_validate.specs.BodyPass.{stops}
use Rattle.wasm_validate.proofs.body.pass_stop.Given as goal

abbrev pub invariant-loop-at : goal.invariant-loop-at
invariant-loop-at l = stops l.m (l.func.params ++ l.body.locals) (results_of l.func) outset 0 l.body.code ≡ stops l.m (l.func.params ++ l.body.locals) (results_of l.func) l.checker l.at (drop l.at l.body.code)
