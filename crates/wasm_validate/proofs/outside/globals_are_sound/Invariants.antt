use Rattle.std.proofs.Common.{◌≡◌, ℕ, ◌<◌, Some}
use Rattle.std.specs.Prelude.{slice_get}
use Rattle.wasm_core.specs.declared.types.GlobalDef.{GlobalDef}
use Rattle.wasm_core.specs.ModuleTyping.{type_of}
use Rattle.wasm_validate.proofs.outside.globals_are_sound.Given as goal

abbrev pub invariant-loop-at : goal.invariant-loop-at
invariant-loop-at l = (x : ℕ) (g : GlobalDef) → x < l.at → slice_get l.m.globals x ≡ Some g → type_of g.init ≡ g.ty
