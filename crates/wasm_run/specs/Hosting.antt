-- What a host's calls say of a machine that hasn't made a step.
use Rattle.std.specs.Prelude.{ℕ, ◌≡◌, ◌+◌, ◌*◌, List, length, true, false, Option, Some, None, Result, Ok, Err}
use Rattle.wasm_core.specs.declared.ended.RunFault.{RunFault}
use Rattle.wasm_core.specs.declared.ended.RunFault.TheVariants.{StepsSpent, Failed, Memory}
use Rattle.wasm_core.specs.declared.entries.Entry.TheVariants.{Heap}
use Rattle.wasm_core.specs.MachineStep.{Store}
use Rattle.wasm_core.specs.Runs.{store_of}
use Rattle.wasm_core.specs.Answer.{global_of}
use Rattle.wasm_core.specs.HostStore.{IsReady, main_start_in, with_store, with_block, has_room, held, put_words}
use Rattle.wasm_core.specs.MachineRun.{MachineShown, IsFreshMachine, size_refusal}
use Rattle.wasm_core.specs.Parts.{Parts}
use Rattle.wasm_core.specs.declared.ended.NewFault.{NewFault}
use Rattle.wasm_core.specs.declared.ended.NewFault.TheVariants as new

-- the store with words put at an address, where memory grows by the fewest pages
abbrev pub put_in : ℕ → List ℕ → Store → Store
put_in at words s = record (held (at + 4 * length words) s) { memory = put_words (held (at + 4 * length words) s).memory at words }

-- the machine is at the start of a run of `main` in its store, which is one in which a run may start
pub record IsAtStart (a : MachineShown) : Type 0 where
  pub ready : IsReady a.program (store_of a.state)
  pub starts : main_start_in a.program (store_of a.state) ≡ Some a.state

-- what making a machine of a module answers whose entries are there
abbrev pub MakesOfSize : Parts → ℕ → Result MachineShown NewFault → Type 0
MakesOfSize m cap (Ok a) = (size_refusal m cap ≡ None) × IsFreshMachine m cap a
MakesOfSize m cap (Err new.Memory) = Unit {0}
MakesOfSize m cap (Err fault) = size_refusal m cap ≡ Some fault

-- `heap` is the address, there was room, and the machine has the words there now, with `heap` past them; all else is as it was
pub record HasPut (old new : MachineShown) (words : List ℕ) (at : ℕ) : Type 0 where
  pub heap : global_of Heap old.program (store_of old.state) ≡ Some at
  pub room : has_room old.program old.cap (at + 4 * length words) ≡ true
  pub is : new ≡ record old { state = with_store old.state (with_block old.program at words (store_of old.state)) }

-- there is no room for so many words at `heap`, and nothing has changed
pub record HasNoRoom (old new : MachineShown) (words : List ℕ) : Type 0 where
  pub at : ℕ
  pub heap : global_of Heap old.program (store_of old.state) ≡ Some at
  pub room : has_room old.program old.cap (at + 4 * length words) ≡ false
  pub is : new ≡ old

-- What a call says that puts words into memory: their address, or that there is no room. After want of memory the machine has failed.
abbrev pub SaysPut : MachineShown → MachineShown → List ℕ → Result (Option ℕ) RunFault → Type 0
SaysPut old new words (Ok (Some at)) = (old.failed ≡ false) × HasPut old new words at
SaysPut old new words (Ok None) = (old.failed ≡ false) × HasNoRoom old new words
SaysPut old new words (Err StepsSpent) = ⊥
SaysPut old new words (Err Failed) = (old.failed ≡ true) × (new ≡ old)
SaysPut old new words (Err Memory) = (old.failed ≡ false) × (new.failed ≡ true)
