-- A machine whose bound on its pages is no smaller than the module's maximum.
use Rattle.std.specs.Prelude.{◌≡◌, ℕ, ◌≤◌, false, Some}
use Rattle.wasm_core.specs.Parts.{Parts}
use Rattle.wasm_core.specs.Instance.{greatest_pages}
use Rattle.wasm_core.specs.MachineStep.{State}
use Rattle.wasm_core.specs.Runs.{Moves, main_start, store_of}

-- in no state of its run was the last refused grow one that the maximum allows
abbrev pub MachinesRefusePastMaximum : Type 0
MachinesRefusePastMaximum =
    (m : Parts) (cap k : ℕ) (first t : State) → greatest_pages m.memory ≤ cap → main_start m ≡ Some first → Moves m cap k first t → (store_of t).by_choice ≡ false
