use Rattle.std.proofs.Common.{◌≡◌, ℕ, ◌<◌, Some}
use Rattle.std.specs.Prelude.{slice_get}
use Rattle.wasm_core.specs.declared.elements.Segment.{Segment}
use Rattle.wasm_core.specs.ModuleTyping.{SegmentIsValid}
use Rattle.wasm_validate.proofs.outside.elements_are_sound.Given as goal

abbrev pub invariant-loop-at : goal.invariant-loop-at
invariant-loop-at l = (i : ℕ) (s : Segment) → i < l.at → slice_get l.m.elements i ≡ Some s → SegmentIsValid l.m s
