use Rattle.std.proofs.Common.{◌≡◌, ℕ, ◌<◌, length, Some}
use Rattle.std.specs.Prelude.{slice_get}
use Rattle.wasm_validate.proofs.outside.segment_is_sound.Given as goal

abbrev pub invariant-loop-at : goal.invariant-loop-at
invariant-loop-at l = (i f : ℕ) → i < l.at → slice_get l.of.funcs i ≡ Some f → f < length l.m.funcs
