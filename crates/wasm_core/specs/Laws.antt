-- Laws of the definitions.
use Rattle.std.specs.Prelude.{ℕ, ◌≡◌, ◌≤◌, ◌<◌, ◌^◌, ◌++◌, ◌⊎◌, List, [], ◌∷◌, length, false, Some, None, Bool, true}
use Rattle.wasm_core.specs.declared.instrs.Instr.{Instr}
use Rattle.wasm_core.specs.Parts.{Parts}
use Rattle.wasm_core.specs.MachineStep.{Store, State, Over, StepsTo, Reach}
use Rattle.wasm_core.specs.ModuleTyping.{OperandTypes, TypedBody, IsValid}
use Rattle.wasm_core.specs.FirstFault.{CanGoOn, IsFaultAt, FirstFault}
use Rattle.wasm_core.specs.Runs.{main_start, first_store, HasSteps, store_of, Moves}
use Rattle.wasm_core.specs.HostStore.{main_start_in, with_store, IsReady, IsForCall}
use Rattle.wasm_core.specs.Words.{HasWords, IsWordy}
use Rattle.wasm_core.specs.WordData.{DataNodes, StandsFor}
use Rattle.wasm_core.specs.Answer.{IsAnswer, Answers, Exhausted, IsAtEnd, AnswersWithin, AnswersFrom, global_of}
use Rattle.wasm_core.specs.Entries.{index_of, IsGlobalEntry}
use Rattle.wasm_core.specs.ModuleGrammar.{GrammarIsExact, SpellsModule}
use Rattle.wasm_core.specs.ShortestBytes.{module_bytes}
use Rattle.wasm_core.specs.ModuleCondition.{All, IsInstr, IsClosed, IsModule}
use Rattle.wasm_core.specs.MachineRun.{MachineShown, Ran, IsFreshMachine, HasEndedAs, refusal, refusal_for_call}
use Rattle.wasm_core.specs.RunTree.{Within}
use Rattle.wasm_core.specs.declared.entries.Entry.{Entry}
use Rattle.wasm_core.specs.declared.ended.Ended.{Ended}

-- a step is determined by whether a grow is granted
abbrev pub StepsAreDetermined : Type 0
StepsAreDetermined = (m : Parts) (granted : Bool) (s t u : State) → StepsTo m granted s t → StepsTo m granted s u → t ≡ u

-- until a run of a valid module's `main` ends, there is a step, whether a grow is granted or refused
abbrev pub NeverStuck : Type 0
NeverStuck = (m : Parts) (first : State) (k : ℕ) (t : State) → IsValid m → main_start m ≡ Some first → Reach m k first t → HasSteps m t

-- where a module's numbers are within their types, so are those of each state that a run reaches, and its memory is whole pages of bytes
abbrev pub WordsStay : Type 0
WordsStay = (m : Parts) (first : State) (k : ℕ) (t : State) → HasWords m → main_start m ≡ Some first → Reach m k first t → IsWordy t

-- memory never shrinks, in its pages and in its bytes, and that a grow was refused isn't forgotten
pub record Grows (s t : Store) : Type 0 where
  pub pages : s.pages ≤ t.pages
  pub bytes : length s.memory ≤ length t.memory
  pub refused : s.refused ≡ true → t.refused ≡ true

abbrev pub MemoryGrows : Type 0
MemoryGrows = (m : Parts) (k : ℕ) (s t : State) → Reach m k s t → Grows (store_of s) (store_of t)

-- a front of instructions with which a typed body can begin has only such fronts
abbrev pub FrontsCanGoOn : Type 0
FrontsCanGoOn = (m : Parts) (locals results : OperandTypes) (front more : List Instr) → CanGoOn m locals results (front ++ more) → CanGoOn m locals results front

-- a body fails at one place at most
abbrev pub FaultPlaceIsUnique : Type 0
FaultPlaceIsUnique = (m : Parts) (locals results : OperandTypes) (code : List Instr) (p q : ℕ) → IsFaultAt m locals results code p → IsFaultAt m locals results code q → p ≡ q

-- a word of a memory stands for one tree of data at most
abbrev pub DataIsUnique : Type 0
DataIsUnique = (memory : List ℕ) (w : ℕ) (d e : DataNodes) → StandsFor memory w d → StandsFor memory w e → d ≡ e

-- a store answers one tree of data at most
abbrev pub AnswerIsUnique : Type 0
AnswerIsUnique = (m : Parts) (store : Store) (d e : DataNodes) → IsAnswer m d store → IsAnswer m e store → d ≡ e

-- in a valid module a run that can go no further is over
abbrev pub EndsAreOver : Type 0
EndsAreOver = (m : Parts) (first : State) (k : ℕ) (t : State) → IsValid m → main_start m ≡ Some first → Reach m k first t → IsAtEnd m t → (e : Ended) × (store : Store) × (t ≡ Over e store)

-- in each state that a run of a valid module reaches, the globals of the entries are i32s, where they are exported
abbrev pub EntriesAreThere : Type 0
EntriesAreThere = (m : Parts) (first : State) (k : ℕ) (t : State) (n : Entry) (x : ℕ) → IsGlobalEntry n → IsValid m → main_start m ≡ Some first → Reach m k first t → index_of n m ≡ Some x → (w : ℕ) × (global_of n m (store_of t) ≡ Some w)

-- the steps of a machine are steps of a run
abbrev pub MovesAreSteps : Type 0
MovesAreSteps = (m : Parts) (cap k : ℕ) (s t : State) → Moves m cap k s t → Reach m k s t

-- a module all of whose runs answer, by their tree, answers within the tree's bound
abbrev pub TreeAnswers : Type 0
TreeAnswers = (m : Parts) (frames least most : ℕ) (d : DataNodes) (first : State) → main_start m ≡ Some first → Within m frames (Answers m d) (Exhausted m) least most first → AnswersWithin m most d

-- any bytes spell one module, or stop at one offset, and never both
abbrev pub ReadingIsExact : Type 0
ReadingIsExact = GrammarIsExact

-- what bytes spell meets the condition of modules
abbrev pub SpelledIsModule : Type 0
SpelledIsModule = (bytes : List ℕ) (m : Parts) → SpellsModule bytes m → IsModule m

-- a module's shortest bytes spell it
abbrev pub ShortestBytesSpell : Type 0
ShortestBytesSpell = (m : Parts) → IsModule m → length (module_bytes m) < 2 ^ 32 → SpellsModule (module_bytes m) m

-- the numbers of a valid module are within their types
abbrev pub ModulesHaveWords : Type 0
ModulesHaveWords = (m : Parts) → IsModule m → IsValid m → HasWords m

-- a body with a typing, whose immediates have their bits, is closed as the binary format asks
abbrev pub TypedIsClosed : Type 0
TypedIsClosed = (m : Parts) (locals results : OperandTypes) (code : List Instr) → TypedBody m locals results code → All IsInstr code → IsClosed (false ∷ []) code

-- a module without a typing first fails in one function and at one place
abbrev pub FirstFaultIsUnique : Type 0
FirstFaultIsUnique = (m : Parts) (f p g q : ℕ) → FirstFault m f p → FirstFault m g q → (f ≡ g) × (p ≡ q)

-- and it has none
abbrev pub FirstFaultIsFault : Type 0
FirstFaultIsFault = (m : Parts) (f p : ℕ) → FirstFault m f p → IsValid m → ⊥

-- a closed body has a typing, or fails at a place
abbrev pub BodiesAreJudged : Type 0
BodiesAreJudged = (m : Parts) (locals results : OperandTypes) (code : List Instr) → IsClosed (false ∷ []) code → TypedBody m locals results code ⊎ ((p : ℕ) × IsFaultAt m locals results code p)

-- a module that bytes can spell has a typing, or first fails somewhere
abbrev pub ModulesAreJudged : Type 0
ModulesAreJudged = (m : Parts) → IsModule m → IsValid m ⊎ ((f p : ℕ) × FirstFault m f p)

-- where a machine's run from the start is over, and all runs of its module answer the data or are exhausted, it answers it or is exhausted
abbrev pub EndedAnswers : Type 0
EndedAnswers = (m : Parts) (cap most k : ℕ) (d : DataNodes) (a b : MachineShown) (e : Ended) → IsFreshMachine m cap a → Ran a b k → HasEndedAs e b.state → AnswersWithin m most d → (k ≤ most) × (Answers m d b.state ⊎ Exhausted m b.state)

-- where it still goes on after so many steps, they are at most as many as the bound
abbrev pub SpentIsFew : Type 0
SpentIsFew = (m : Parts) (cap most k : ℕ) (d : DataNodes) (a b : MachineShown) → IsFreshMachine m cap a → Ran a b k → AnswersWithin m most d → k ≤ most

-- a run of a valid module starts wherever nothing is refused
abbrev pub StartsUnlessRefused : Type 0
StartsUnlessRefused = (m : Parts) (cap : ℕ) → IsValid m → refusal m cap ≡ None → (s : State) × (main_start m ≡ Some s)

-- the store in which a run of a valid module starts by itself is one in which a run may start
abbrev pub FirstIsReady : Type 0
FirstIsReady = (m : Parts) → IsValid m → HasWords m → IsReady m (first_store m)

-- a run starts in any store as it starts by itself, but for the store
abbrev pub HostedStarts : Type 0
HostedStarts = (m : Parts) (s : Store) (first : State) → main_start m ≡ Some first → main_start_in m s ≡ Some (with_store first s)

-- The same of runs from a store that a host has made ready: until such a run of a valid module ends, there is a step,
abbrev pub HostedNeverStuck : Type 0
HostedNeverStuck = (m : Parts) (s : Store) (first : State) (k : ℕ) (t : State) → IsValid m → IsReady m s → main_start_in m s ≡ Some first → Reach m k first t → HasSteps m t

-- its numbers stay within their types, and its memory is whole pages of bytes,
abbrev pub HostedWordsStay : Type 0
HostedWordsStay = (m : Parts) (s : Store) (first : State) (k : ℕ) (t : State) → HasWords m → IsReady m s → main_start_in m s ≡ Some first → Reach m k first t → IsWordy t

-- where it can go no further it is over,
abbrev pub HostedEndsAreOver : Type 0
HostedEndsAreOver = (m : Parts) (s : Store) (first : State) (k : ℕ) (t : State) → IsValid m → IsReady m s → main_start_in m s ≡ Some first → Reach m k first t → IsAtEnd m t → (e : Ended) × (store : Store) × (t ≡ Over e store)

-- and the globals of its entries are i32s.
abbrev pub HostedEntriesAreThere : Type 0
HostedEntriesAreThere = (m : Parts) (s : Store) (first : State) (k : ℕ) (t : State) (n : Entry) (x : ℕ) → IsGlobalEntry n → IsValid m → IsReady m s → main_start_in m s ≡ Some first → Reach m k first t → index_of n m ≡ Some x → (w : ℕ) × (global_of n m (store_of t) ≡ Some w)

-- where a machine's run from a state is over, and all runs from there answer the data or are exhausted, it answers it or is exhausted
abbrev pub EndedAnswersFrom : Type 0
EndedAnswersFrom = (most k : ℕ) (d : DataNodes) (a b : MachineShown) (e : Ended) → Ran a b k → HasEndedAs e b.state → AnswersFrom a.program most d a.state → (k ≤ most) × (Answers a.program d b.state ⊎ Exhausted a.program b.state)

-- where it still goes on after so many steps, they are at most as many as the bound
abbrev pub SpentIsFewFrom : Type 0
SpentIsFewFrom = (most k : ℕ) (d : DataNodes) (a b : MachineShown) → Ran a b k → AnswersFrom a.program most d a.state → k ≤ most

-- a module for which nothing is refused to a host that gives arguments exports what such a host asks for, and nothing is refused for a run without them
abbrev pub CallsAreRuns : Type 0
CallsAreRuns = (m : Parts) (cap : ℕ) → refusal_for_call m cap ≡ None → IsForCall m × (refusal m cap ≡ None)
