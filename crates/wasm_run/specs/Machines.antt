-- What a machine keeps.
use Rattle.std.specs.Prelude.{ℕ, ◌≡◌, ◌-◌, ◌^◌, min, Some, false}
use Rattle.wasm_core.specs.declared.entries.Entry.TheVariants.{Result, Status, Heap, Args}
use Rattle.wasm_core.specs.Parts.{Parts}
use Rattle.wasm_core.specs.Entries.{index_of}
use Rattle.wasm_core.specs.HostStore.{IsForCall, IsReady, main_start_in}
use Rattle.wasm_core.specs.MachineStep.{Store, State}
use Rattle.wasm_core.specs.MachineRun.{MachineShown}
use Rattle.wasm_core.specs.Runs.{Moves, first_store}
use Rattle.wasm_core.specs.ModuleTyping.{IsValid}
use Rattle.wasm_core.specs.Words.{HasWords}
use Rattle.wasm_run.specs.Standing.{most_frames}
use Rattle.wasm_run.specs.Threads.{state_of}
use Rattle.wasm_run.specs.declared.machine.Machine.TheInside.{Inside}

abbrev pub shown : Inside → MachineShown
shown a = record {
  program = a.program;
  cap = a.cap;
  state = state_of a.program a.ended a.thread;
  made = a.made;
  failed = a.failed;
}

-- a state that the machine's steps, as many as are counted, reach from the start of `main` in a store in which a run may start, the module's own where no host gives
-- arguments, with the most frames at one of these states
pub record Reached (m : Parts) (cap made peak : ℕ) (s : State) : Type 0 where
  pub store : Store
  pub own : (IsForCall m → ⊥) → store ≡ first_store m
  pub ready : IsReady m store
  pub first : State
  pub starts : main_start_in m store ≡ Some first
  pub steps : ℕ
  pub counted : made ≡ min steps (2 ^ 64 - 1)
  pub moves : Moves m cap steps first s
  pub most : peak ≡ most_frames m cap steps first s moves

pub record IsMachine (a : Inside) : Type 0 where
  pub valid : IsValid a.program
  pub words : HasWords a.program
  pub reached : a.failed ≡ false → Reached a.program a.cap a.made a.peak (state_of a.program a.ended a.thread)
  pub result_at : index_of Result a.program ≡ Some a.result_at
  pub status_at : index_of Status a.program ≡ Some a.status_at
  pub heap_at : (x : ℕ) → index_of Heap a.program ≡ Some x → a.heap_at ≡ x
  pub args_at : (x : ℕ) → index_of Args a.program ≡ Some x → a.args_at ≡ x
