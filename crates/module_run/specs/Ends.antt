-- How the answer of a module ends: the machine's run of its `main` in a bounded number of steps, and the data in its result.
use Rattle.std.specs.Prelude.{ℕ, ◌≡◌, ◌≢◌, ◌≤◌, ◌<◌, List, length, false, Option, Some, Result, Ok, Err}
use Rattle.wasm_core.specs.declared.ended.Ended.TheVariants.{Returned, Trapped}
use Rattle.wasm_core.specs.declared.ended.TrapKind.{TrapKind}
use Rattle.wasm_core.specs.declared.entries.Entry.TheVariants as entry
use Rattle.wasm_core.specs.Parts.{Parts}
use Rattle.wasm_core.specs.ModuleGrammar.{SpellsModule}
use Rattle.wasm_core.specs.ShortestBytes.{module_bytes, most_bytes}
use Rattle.wasm_core.specs.MachineStep.{State, Store, Over}
use Rattle.wasm_core.specs.MachineRun.{MachineShown, GoesOn}
use Rattle.wasm_core.specs.Runs.{Moves, main_start, store_of}
use Rattle.wasm_core.specs.Answer.{global_of}
use Rattle.wasm_core.specs.WordData.{StandsFor}
use Rattle.mem_value.specs.Tells.{HasData, HasMany, most_nodes}
use Rattle.module_run.specs.declared.answer.Answer.{Answer}
use Rattle.module_run.specs.declared.refusal.RunRefusal.{RunRefusal}
use Rattle.module_run.specs.declared.refusal.RunRefusal.TheVariants as refusals

-- the shortest bytes of the module are within 16 MiB
abbrev pub IsSmall : Parts → Type 0
IsSmall m = length (module_bytes m) ≤ most_bytes

-- Of runs from a state, where there is one: that of `main` in the store of its module (`main_start`), or in a store in which a host has put words.

-- such a run, by a machine with this bound on its pages, comes to this state within n steps
pub record IsRunFrom (o : Option State) (m : Parts) (cap n : ℕ) (s : State) : Type 0 where
  pub first : State
  pub starts : o ≡ Some first
  pub steps : ℕ
  pub few : steps ≤ n
  pub moves : Moves m cap steps first s

-- it still goes on after n steps
pub record IsLongerFrom (o : Option State) (m : Parts) (cap n : ℕ) : Type 0 where
  pub first : State
  pub starts : o ≡ Some first
  pub state : State
  pub moves : Moves m cap n first state
  pub goes_on : GoesOn state

-- it traps, with this status
pub record IsTrappedFrom (o : Option State) (m : Parts) (cap n : ℕ) (kind : TrapKind) (status : ℕ) : Type 0 where
  pub store : Store
  pub run : IsRunFrom o m cap n (Over (Trapped kind) store)
  pub status_is : global_of entry.Status m store ≡ Some status

-- it returns, with this memory and this word in `result`
pub record IsReturnedFrom (o : Option State) (m : Parts) (cap n : ℕ) (word : ℕ) : Type 0 where
  pub store : Store
  pub run : IsRunFrom o m cap n (Over Returned store)
  pub word_is : global_of entry.Result m store ≡ Some word

-- the word stands for data of at most 4,000,000 nodes; for none; for data of more nodes

pub record IsAnsweredFrom (o : Option State) (m : Parts) (cap n : ℕ) (a : Answer) : Type 0 where
  pub returned : IsReturnedFrom o m cap n a.word
  pub stands : StandsFor returned.store.memory a.word a.tree
  pub few : length a.tree ≤ most_nodes

pub record IsNoValueFrom (o : Option State) (m : Parts) (cap n word : ℕ) : Type 0 where
  pub returned : IsReturnedFrom o m cap n word
  pub none : HasData returned.store.memory word → ⊥

pub record IsLargeFrom (o : Option State) (m : Parts) (cap n : ℕ) : Type 0 where
  pub word : ℕ
  pub returned : IsReturnedFrom o m cap n word
  pub many : HasMany returned.store.memory word

-- how the answer ends; want of memory says nothing
abbrev pub EndsFrom : Option State → Parts → (cap n : ℕ) → Result Answer RunRefusal → Type 0
EndsFrom o m cap n (Ok a) = IsSmall m × IsAnsweredFrom o m cap n a
EndsFrom o m cap n (Err refusals.ModuleBytes) = most_bytes < length (module_bytes m)
EndsFrom o m cap n (Err refusals.StepsSpent) = IsSmall m × IsLongerFrom o m cap n
EndsFrom o m cap n (Err refusals.Exhausted) = IsSmall m × ((kind : TrapKind) × IsTrappedFrom o m cap n kind 1)
EndsFrom o m cap n (Err (refusals.Trapped kind)) = IsSmall m × ((status : ℕ) × (status ≢ 1) × IsTrappedFrom o m cap n kind status)
EndsFrom o m cap n (Err (refusals.NoValue word)) = IsSmall m × IsNoValueFrom o m cap n word
EndsFrom o m cap n (Err refusals.AnswerNodes) = IsSmall m × IsLargeFrom o m cap n
EndsFrom o m cap n (Err refusals.Memory) = Unit {0}

-- ---- the same of a run of `main` in the store of its module

abbrev pub IsRun : Parts → (cap n : ℕ) → State → Type 0
IsRun m cap n s = IsRunFrom (main_start m) m cap n s

abbrev pub IsLonger : Parts → (cap n : ℕ) → Type 0
IsLonger m cap n = IsLongerFrom (main_start m) m cap n

abbrev pub IsTrapped : Parts → (cap n : ℕ) → TrapKind → (status : ℕ) → Type 0
IsTrapped m cap n kind status = IsTrappedFrom (main_start m) m cap n kind status

abbrev pub IsReturned : Parts → (cap n word : ℕ) → Type 0
IsReturned m cap n word = IsReturnedFrom (main_start m) m cap n word

abbrev pub IsAnswered : Parts → (cap n : ℕ) → Answer → Type 0
IsAnswered m cap n a = IsAnsweredFrom (main_start m) m cap n a

abbrev pub IsNoValue : Parts → (cap n word : ℕ) → Type 0
IsNoValue m cap n word = IsNoValueFrom (main_start m) m cap n word

abbrev pub IsLarge : Parts → (cap n : ℕ) → Type 0
IsLarge m cap n = IsLargeFrom (main_start m) m cap n

abbrev pub Ends : Parts → (cap n : ℕ) → Result Answer RunRefusal → Type 0
Ends m cap n r = EndsFrom (main_start m) m cap n r

-- what the parts of it say

-- the bytes are the module's shortest, which spell it
abbrev pub WriteSays : {X : Type 0} → (X → List ℕ) → Parts → Result X RunRefusal → Type 0
WriteSays bytes_of m (Ok v) = (bytes_of v ≡ module_bytes m) × IsSmall m × SpellsModule (bytes_of v) m
WriteSays bytes_of m (Err refusals.ModuleBytes) = most_bytes < length (module_bytes m)
WriteSays bytes_of m (Err refusals.Memory) = Unit {0}
WriteSays bytes_of m (Err _) = ⊥

-- a machine at the start of a run from a state, with this bound on its pages
abbrev pub StartsAt : Option State → Parts → ℕ → MachineShown → Type 0
StartsAt o m cap a = (s : State) × (o ≡ Some s) × (a ≡ record { program = m; cap = cap; state = s; made = 0; failed = false })

-- the machine has returned
pub record HasReturnedFrom (o : Option State) (m : Parts) (cap n : ℕ) (a : MachineShown) : Type 0 where
  pub sound : a.failed ≡ false
  pub program : a.program ≡ m
  pub store : Store
  pub at : a.state ≡ Over Returned store
  pub run : IsRunFrom o m cap n (Over Returned store)
  pub made : a.made ≡ run.steps

abbrev pub RunSaysFrom : Option State → Parts → (cap n : ℕ) → MachineShown → Result (Unit {0}) RunRefusal → Type 0
RunSaysFrom o m cap n a (Ok x) = HasReturnedFrom o m cap n a
RunSaysFrom o m cap n a (Err refusals.StepsSpent) = IsLongerFrom o m cap n
RunSaysFrom o m cap n a (Err refusals.Exhausted) = (kind : TrapKind) × IsTrappedFrom o m cap n kind 1
RunSaysFrom o m cap n a (Err (refusals.Trapped kind)) = (status : ℕ) × (status ≢ 1) × IsTrappedFrom o m cap n kind status
RunSaysFrom o m cap n a (Err refusals.Memory) = Unit {0}
RunSaysFrom o m cap n a (Err _) = ⊥

abbrev pub HasReturned : Parts → (cap n : ℕ) → MachineShown → Type 0
HasReturned m cap n a = HasReturnedFrom (main_start m) m cap n a

abbrev pub RunSays : Parts → (cap n : ℕ) → MachineShown → Result (Unit {0}) RunRefusal → Type 0
RunSays m cap n a r = RunSaysFrom (main_start m) m cap n a r

-- the word in a machine's result, and what it stands for
pub record WordIsTold (a : MachineShown) (Stands : ℕ → Type 0) : Type 0 where
  pub word : ℕ
  pub is_result : a.failed ≡ false → global_of entry.Result a.program (store_of a.state) ≡ Some word
  pub stands : Stands word

abbrev pub AnswerSays : MachineShown → Result Answer RunRefusal → Type 0
AnswerSays a (Ok x) = WordIsTold a (λ w. (a.failed ≡ false → w ≡ x.word) × StandsFor (store_of a.state).memory w x.tree × (length x.tree ≤ most_nodes))
AnswerSays a (Err (refusals.NoValue x)) = WordIsTold a (λ w. (x ≡ w) × (HasData (store_of a.state).memory w → ⊥))
AnswerSays a (Err refusals.AnswerNodes) = WordIsTold a (λ w. HasMany (store_of a.state).memory w)
AnswerSays a (Err refusals.Memory) = Unit {0}
AnswerSays a (Err _) = ⊥
