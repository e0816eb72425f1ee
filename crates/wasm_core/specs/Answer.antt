-- What the runs of a module answer.
use Rattle.std.specs.Prelude.{ℕ, ◌≡◌, ◌≤◌, ◌⊎◌, Bool, true, Option, Some, None, slice_get}
use Rattle.std.specs.Option.{option_and_then}
use Rattle.wasm_core.specs.declared.types.ConstValue.{ConstValue}
use Rattle.wasm_core.specs.declared.types.ConstValue.TheVariants.{I32, I64}
use Rattle.wasm_core.specs.declared.entries.Entry.{Entry}
use Rattle.wasm_core.specs.declared.entries.Entry.TheVariants.{Result, Status}
use Rattle.wasm_core.specs.declared.ended.Ended.TheVariants.{Returned, Trapped}
use Rattle.wasm_core.specs.declared.ended.TrapKind.{TrapKind}
use Rattle.wasm_core.specs.Parts.{Parts}
use Rattle.wasm_core.specs.MachineStep.{Store, State, Over, StepsTo, Reach}
use Rattle.wasm_core.specs.Entries.{index_of}
use Rattle.wasm_core.specs.Runs.{main_start}
use Rattle.wasm_core.specs.WordData.{DataNodes, StandsFor}

abbrev pub i32_of : ConstValue → Option ℕ
i32_of (I32 n) = Some n
i32_of (I64 n) = None

-- the value of an exported i32 global
abbrev pub global_of : Entry → Parts → Store → Option ℕ
global_of n m store = option_and_then (λ x. option_and_then i32_of (slice_get store.globals x)) (index_of n m)

-- the status is 0, and the result stands for the data
pub record IsAnswer (m : Parts) (d : DataNodes) (store : Store) : Type 0 where
  pub status : global_of Status m store ≡ Some 0
  pub word : ℕ
  pub result : global_of Result m store ≡ Some word
  pub stands : StandsFor store.memory word d

-- the status is 1, and a grow of memory was refused
pub record HasNoMemory (m : Parts) (store : Store) : Type 0 where
  pub status : global_of Status m store ≡ Some 1
  pub refused : store.refused ≡ true

-- the run has returned and answers the data
pub data Answers (m : Parts) (d : DataNodes) : State → Type 0 where
  answers : {store : Store} → IsAnswer m d store → Answers m d (Over Returned store)

-- the run has trapped with the status 1, after a refused grow
pub data Exhausted (m : Parts) : State → Type 0 where
  exhausted : {k : TrapKind} {store : Store} → HasNoMemory m store → Exhausted m (Over (Trapped k) store)

-- the run can go no further
abbrev pub IsAtEnd : Parts → State → Type 0
IsAtEnd m s = (granted : Bool) (t : State) → StepsTo m granted s t → ⊥

-- no run of `main` is longer than so many steps, whichever grows are refused, and each run that can go no further answers the data or is exhausted
pub record AnswersWithin (m : Parts) (most : ℕ) (d : DataNodes) : Type 0 where
  pub first : State
  pub starts : main_start m ≡ Some first
  pub bounded : (k : ℕ) (t : State) → Reach m k first t → k ≤ most
  pub answers : (k : ℕ) (t : State) → Reach m k first t → IsAtEnd m t → Answers m d t ⊎ Exhausted m t

-- no run from this state is longer than so many steps, whichever grows are refused, and each one that can go no further answers the data or is exhausted
pub record AnswersFrom (m : Parts) (most : ℕ) (d : DataNodes) (first : State) : Type 0 where
  pub bounded : (k : ℕ) (t : State) → Reach m k first t → k ≤ most
  pub answers : (k : ℕ) (t : State) → Reach m k first t → IsAtEnd m t → Answers m d t ⊎ Exhausted m t

-- every run that is long enough answers the data or is exhausted
abbrev pub AlwaysAnswers : Parts → DataNodes → Type 0
AlwaysAnswers m d = (most : ℕ) × AnswersWithin m most d
