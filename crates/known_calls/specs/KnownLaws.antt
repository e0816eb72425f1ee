-- The laws of emission: what the runs of a module with workers do, that it is valid and can be spelled; and the same from A-normal form and for a main with arguments.
use Rattle.std.specs.Prelude.{◌≡◌, ℕ, ◌+◌, ◌*◌, ◌<◌, ◌≤◌, ◌⊎◌, List, slice_get, true, Some}
use Rattle.anf_convert.specs.Anf.{AnfProgram}
use Rattle.anf_convert.specs.AnfData.{DataTree, DataTrees, AnfIsData}
use Rattle.anf_convert.specs.AnfEvaluation.{AnfVal, WNil, AnfAnswers}
use Rattle.anf_convert.specs.AnfForm.{AnfFormed}
use Rattle.anf_convert.specs.Preorder.{fields_of as count, preorder}
use Rattle.closure_lift.specs.Lift.{lift}
use Rattle.closure_lift.specs.Lifted.{Program, Val, Vals, VNil, LiftedAnswers as Evaluates}
use Rattle.closure_lift.specs.LiftedForm.{Formed, Limits as IsWithin}
use Rattle.closure_lift.specs.LiftKeeps.{IsData, AreData}
use Rattle.wasm_core.specs.declared.entries.Entry.TheVariants.{Main, Status}
use Rattle.wasm_core.specs.declared.ended.Ended.TheVariants.{Returned}
use Rattle.wasm_core.specs.declared.types.ConstValue.TheVariants.{I32}
use Rattle.wasm_core.specs.Parts.{Parts}
use Rattle.wasm_core.specs.Instance.{Func, func_of}
use Rattle.wasm_core.specs.Entries.{index_of}
use Rattle.wasm_core.specs.MachineStep.{Store, State, Over, Reach}
use Rattle.wasm_core.specs.ModuleTyping.{IsValid}
use Rattle.wasm_core.specs.ModuleCondition.{IsModule}
use Rattle.wasm_core.specs.Runs.{main_start, store_of}
use Rattle.wasm_core.specs.Answer.{global_of, IsAnswer, AnswersWithin, Answers, Exhausted, IsAtEnd}
use Rattle.wasm_core.specs.WordData.{DataNodes as Nodes}
use Rattle.wasm_core.specs.RunTree.{Fate}
use Rattle.wasm_emit.specs.CallDepth.{call_depth}
use Rattle.wasm_emit.specs.EmitLaws.{CountsFit, Spent}
use Rattle.wasm_emit.specs.EmittedModule.{type_main}
use Rattle.wasm_emit.specs.CallLaws.{IsHosted, hosted, call_start}
use Rattle.known_calls.specs.KnownModule.{module_of}
use Rattle.known_calls.specs.KnownCalls.{call_function, module_of_call}

-- The run has returned and answers the data; the heap ends after at most so many bytes, and memory has no more pages than the heap takes.
pub data FinishedWithin (m : Parts) (d : Nodes) (bytes : ℕ) : State → Type 0 where
  finished : {store : Store} {heap : ℕ} → IsAnswer m d store → slice_get store.globals 2 ≡ Some (I32 heap) → heap ≤ bytes → 65536 * store.pages < heap + 65536 → FinishedWithin m d bytes (Over Returned store)

-- The run of a call has returned and answers the data; the heap ends no lower than it did, after at most so many bytes, and memory has more pages than
-- at first only where the heap takes them.
pub data CallFinished (m : Parts) (d : Nodes) (first heap bytes : ℕ) : State → Type 0 where
  call_finished : {store : Store} {now : ℕ} → IsAnswer m d store → slice_get store.globals 2 ≡ Some (I32 now) → heap ≤ now → now ≤ bytes →
      (first < store.pages → 65536 * store.pages < now + 65536) → CallFinished m d first heap bytes (Over Returned store)

-- a program whose names are in scope gives a valid module
abbrev pub KnownValid : Type 0
KnownValid = (P : Program) (pages m : ℕ) → 0 < pages → pages ≤ 16384 → Formed P m → IsValid (module_of P pages)

-- where the counts fit, the binary format can spell the module
abbrev pub KnownSpelled : Type 0
KnownSpelled = (P : Program) (pages m : ℕ) → 0 < pages → pages ≤ 16384 → Formed P m → IsWithin P → CountsFit P m → IsModule (module_of P pages)

-- What every run of the module does, whichever grows are refused: it has a bounded number of steps; and it goes on, where at most `calls + 1`
-- frames wait for the one that runs, or has returned and answers the data, after at least k steps, with at most s words of blocks on the heap, or has spent its memory.
pub record KnownEmitted (P : Program) (pages w m : ℕ) (d : DataTree) (c k b s calls : ℕ) : Type 0 where
  pub first : State
  pub starts : main_start (module_of P pages) ≡ Some first
  pub run : (n : ℕ) (t : State) → Reach (module_of P pages) n first t → (n ≤ 64 * (b + c + 1) * (w + m)) × Fate (module_of P pages) (calls + 1) (FinishedWithin (module_of P pages) (preorder d) (8 + 4 * s)) (Spent (module_of P pages) (8 + 4 * s)) k n t
  pub always : AnswersWithin (module_of P pages) (64 * (b + c + 1) * (w + m)) (preorder d)

-- where main of a program of the form evaluates to data with c contractions, of which k are matches, and b blocks of s words in all, no block over w
-- words, and no match has over m branches; the calls are those of its call depth
abbrev pub KnownAnswers : Type 0
KnownAnswers =
    (P : Program) (pages w m : ℕ) (v : Val) (d : DataTree) (c k b s : ℕ) → 0 < pages → pages ≤ 16384 → 0 < m → Formed P m → IsWithin P →
    (run : Evaluates P w VNil v c k b s) → IsData v d → KnownEmitted P pages w m d c k b s (call_depth run)

-- of every program, whether main has a value or not: in every run the status is 1 only after a refused grow of that run
abbrev pub KnownStatusTells : Type 0
KnownStatusTells =
    (P : Program) (pages : ℕ) (first : State) (n : ℕ) (t : State) → pages ≤ 16384 → main_start (module_of P pages) ≡ Some first → Reach (module_of P pages) n first t →
    global_of Status (module_of P pages) (store_of t) ≡ Some 1 → (store_of t).refused ≡ true

-- the lifted program of one in A-normal form has an evaluation, by whose call depth the frames of its module's runs are bounded; that is at most c
pub record AnfEmitted (P : Program) (pages w m : ℕ) (d : DataTree) (c k b s : ℕ) : Type 0 where
  pub v : Val
  pub contractions : ℕ
  pub evaluates : Evaluates P w VNil v contractions k b s
  pub shallow : call_depth evaluates ≤ c
  pub emitted : KnownEmitted P pages w m d c k b s (call_depth evaluates)

-- where a program in A-normal form evaluates to data, so do the runs of its module
abbrev pub AnfAnswersKnown : Type 0
AnfAnswersKnown =
    (P : AnfProgram) (pages w m : ℕ) (v : AnfVal) (d : DataTree) (c k b l : ℕ) → 0 < pages → pages ≤ 16384 → 0 < m → AnfFormed P m → IsWithin (lift P) →
    AnfAnswers P w WNil v c k b l → AnfIsData v d → AnfEmitted (lift P) pages w m d c k b l

abbrev pub AnfKnownValid : Type 0
AnfKnownValid = (P : AnfProgram) (pages m : ℕ) → 0 < pages → pages ≤ 16384 → AnfFormed P m → IsValid (module_of (lift P) pages)

-- what every run of the module with arguments does, from the host's memory
pub record KnownCalled (P : Program) (pages w m : ℕ) (ds : DataTrees) (d : DataTree) (c k b s calls : ℕ) (store : Store) (heap : ℕ) : Type 0 where
  pub index : ℕ
  pub main : Func
  pub exported : index_of Main (module_of_call P (count ds) pages) ≡ Some index
  pub is : func_of (module_of_call P (count ds) pages) index ≡ Some main
  pub run : (n : ℕ) (t : State) → Reach (module_of_call P (count ds) pages) n (call_start main store) t →
      (n ≤ 64 * (b + c + 1) * (w + m)) ×
      Fate (module_of_call P (count ds) pages) (calls + 1) (CallFinished (module_of_call P (count ds) pages) (preorder d) store.pages heap (heap + 4 * s)) (Spent (module_of_call P (count ds) pages) (heap + 4 * s)) k n t
  pub answers : (n : ℕ) (t : State) → Reach (module_of_call P (count ds) pages) n (call_start main store) t → IsAtEnd (module_of_call P (count ds) pages) t → Answers (module_of_call P (count ds) pages) (preorder d) t ⊎ Exhausted (module_of_call P (count ds) pages) t

-- where main, applied to values that are the stored data, evaluates to data, every long enough run of the module answers that data or is exhausted
abbrev pub CallsAnswer : Type 0
CallsAnswer =
    (P : Program) (pages w m : ℕ) (args : Vals) (ds : DataTrees) (v : Val) (d : DataTree) (c k b s : ℕ) (memory : List ℕ) (now heap address : ℕ) → 0 < pages → pages ≤ 16384 → 0 < m → Formed P m → IsWithin P →
    AreData args ds → (run : Evaluates P w args v c k b s) → IsData v d → IsHosted pages memory now heap address ds → KnownCalled P pages w m ds d c k b s (call_depth run) (hosted memory now heap address) heap

-- such a module is valid, for any number of arguments
abbrev pub CallsValid : Type 0
CallsValid = (P : Program) (k pages m : ℕ) → 0 < pages → pages ≤ 16384 → Formed P m → IsValid (module_of_call P k pages)

-- in every run of it, from a store whose status is 0, the status is 1 only after a refused grow
abbrev pub CallsTell : Type 0
CallsTell =
    (P : Program) (k pages : ℕ) (store : Store) (n : ℕ) (t : State) → pages ≤ 16384 → store.pages ≤ 65536 → slice_get store.globals 1 ≡ Some (I32 0) →
    Reach (module_of_call P k pages) n (call_start (record { type = type_main; body = call_function P k }) store) t → global_of Status (module_of_call P k pages) (store_of t) ≡ Some 1 → (store_of t).refused ≡ true
