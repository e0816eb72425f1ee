-- How a call of a module's `main` ends: a host stores the arguments in the memory in which its run starts, and then it runs in a bounded number of steps.
use Rattle.std.specs.Prelude.{ℕ, ◌≡◌, ◌⊎◌, List, Option, Some, None, Result, Ok, Err}
use Rattle.std.specs.Option.{option_and_then, option_map}
use Rattle.wasm_core.specs.declared.ended.TrapKind.{TrapKind}
use Rattle.wasm_core.specs.Parts.{Parts}
use Rattle.wasm_core.specs.MachineStep.{State}
use Rattle.wasm_core.specs.HostStore.{with_store}
use Rattle.wasm_core.specs.MachineRun.{MachineShown}
use Rattle.wasm_core.specs.Runs.{main_start, store_of}
use Rattle.wasm_core.specs.WordData.{DataNodes}
use Rattle.mem_value.specs.Storing.{HasHeap, put_arguments}
use Rattle.module_run.specs.declared.answer.Answer.{Answer}
use Rattle.module_run.specs.declared.refusal.RunRefusal.{RunRefusal}
use Rattle.module_run.specs.declared.refusal.RunRefusal.TheVariants as refusals
use Rattle.module_run.specs.Ends.{EndsFrom, IsSmall, IsTrappedFrom, StartsAt}

-- a state with the arguments stored in its memory, by a machine with this bound on its pages; none where there is no room for them
abbrev pub with_arguments : Parts → (cap : ℕ) → List DataNodes → State → Option State
with_arguments m cap args s = option_map (with_store s) (put_arguments m cap args (store_of s))

-- the start of a run of `main` with the arguments stored
abbrev pub start_with : Parts → (cap : ℕ) → List DataNodes → Option State
start_with m cap args = option_and_then (with_arguments m cap args) (main_start m)

-- a run of `main` starts, and there is no room for the arguments
abbrev pub LacksRoom : Parts → (cap : ℕ) → List DataNodes → Type 0
LacksRoom m cap args = (s : State) × (main_start m ≡ Some s) × (put_arguments m cap args (store_of s) ≡ None)

-- where a run of `main` starts, a host finds its `heap`
abbrev pub HasHeapAtStart : Parts → Type 0
HasHeapAtStart m = (s : State) → main_start m ≡ Some s → HasHeap m (store_of s)

-- there is no room for the arguments; or the run trapped with the status 1
abbrev pub CallIsExhausted : Parts → (cap n : ℕ) → List DataNodes → Type 0
CallIsExhausted m cap n args = LacksRoom m cap args ⊎ ((kind : TrapKind) × IsTrappedFrom (start_with m cap args) m cap n kind 1)

-- how the call ends; want of memory says nothing
abbrev pub CallEnds : Parts → (cap n : ℕ) → List DataNodes → Result Answer RunRefusal → Type 0
CallEnds m cap n args (Err refusals.Exhausted) = IsSmall m × CallIsExhausted m cap n args
CallEnds m cap n args r = EndsFrom (start_with m cap args) m cap n r

-- ---- what its parts say

-- a machine in whose memory the arguments are stored, or that there is no room
abbrev pub HostSays : Parts → (cap : ℕ) → List DataNodes → Result MachineShown RunRefusal → Type 0
HostSays m cap args (Ok a) = StartsAt (start_with m cap args) m cap a
HostSays m cap args (Err refusals.Exhausted) = LacksRoom m cap args
HostSays m cap args (Err refusals.Memory) = Unit {0}
HostSays m cap args (Err _) = ⊥
