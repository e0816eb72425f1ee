use Rattle.std.proofs.Common.{◌≡◌, ℕ, ◌<◌, length, Some}
use Rattle.std.specs.Prelude.{slice_get}
use Rattle.wasm_validate.proofs.outside.types_are_there.Given as goal

abbrev pub invariant-loop-at : goal.invariant-loop-at
invariant-loop-at l = (f index : ℕ) → f < l.at → slice_get l.m.funcs f ≡ Some index → index < length l.m.types
