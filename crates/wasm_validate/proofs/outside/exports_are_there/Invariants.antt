use Rattle.std.proofs.Common.{◌≡◌, ℕ, ◌<◌, Some}
use Rattle.std.specs.Prelude.{slice_get}
use Rattle.wasm_core.specs.declared.exports.Export.{Export}
use Rattle.wasm_core.specs.ModuleTyping.{IsThere}
use Rattle.wasm_validate.proofs.outside.exports_are_there.Given as goal

abbrev pub invariant-loop-at : goal.invariant-loop-at
invariant-loop-at l = (i : ℕ) (e : Export) → i < l.at → slice_get l.m.exports i ≡ Some e → IsThere l.m e.kind e.index
