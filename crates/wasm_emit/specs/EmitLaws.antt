-- What the laws of emission speak of: a run that has spent its memory, and a program whose counts fit a module.
use Rattle.std.specs.Prelude.{◌≡◌, ℕ, ◌-◌, ◌*◌, ◌<◌, ◌≤◌, length, slice_get, false, Some}
use Rattle.closure_lift.specs.Lifted.{Block, Fn, Program}
use Rattle.wasm_core.specs.declared.ended.Ended.TheVariants.{Trapped}
use Rattle.wasm_core.specs.declared.ended.TrapKind.TheVariants as trap
use Rattle.wasm_core.specs.Parts.{Parts}
use Rattle.wasm_core.specs.Instance.{greatest_pages}
use Rattle.wasm_core.specs.MachineStep.{Store, State, Over}
use Rattle.wasm_core.specs.Answer.{HasNoMemory}
use Rattle.wasm_emit.specs.EmittedLocals.{top}

-- The run has executed `unreachable` with the status 1, after a refused grow. Where the last refused one was past the module's maximum,
-- that is below so many bytes.
pub data Spent (m : Parts) (bytes : ℕ) : State → Type 0 where
  spent : {store : Store} → HasNoMemory m store → (store.by_choice ≡ false → 65536 * greatest_pages m.memory < bytes) → Spent m bytes (Over (Trapped trap.Unreachable) store)

-- what emission refuses, or what no program within the limits has: a function with over 50,000 locals besides its parameters, over 65,536 constants, over
-- 65,536 branches of one match
pub record CountsFit (P : Program) (m : ℕ) : Type 0 where
  pub functions : (g : ℕ) (fn : Fn) → slice_get P.functions g ≡ Some fn → top 2 fn.body - 2 ≤ 50000
  pub bodies : (x : ℕ) (t : Block) → slice_get P.constants x ≡ Some t → top 0 t ≤ 50000
  pub main : top 0 P.main ≤ 50000
  pub constants : length P.constants ≤ 65536
  pub branches : m ≤ 65536
