-- The size of modules for calls: that of a module, and the bytes of main's application to each argument.
use Rattle.std.specs.Prelude.{ℕ, ◌+◌, ◌*◌, ◌≤◌, length}
use Rattle.closure_lift.specs.Lifted.{Program}
use Rattle.closure_lift.specs.LiftedForm.{Formed, Limits as IsWithin}
use Rattle.wasm_core.specs.ShortestBytes.{module_bytes}
use Rattle.wasm_emit.specs.EmitLaws.{CountsFit}
use Rattle.known_calls.specs.KnownWeight.{program_weight}
use Rattle.known_calls.specs.KnownCalls.{module_of_call}

-- the shortest bytes of a module for calls with k arguments
abbrev pub CallsSized : Type 0
CallsSized = (P : Program) (k pages m : ℕ) → k ≤ 255 → Formed P m → IsWithin P → CountsFit P m → length (module_bytes (module_of_call P k pages)) ≤ program_weight P + 128 * k + 704
