-- How the answer of a module that is given as bytes ends: reading, checking, the start of a machine and its run, in this order.
use Rattle.std.specs.Prelude.{ℕ, ◌≡◌, ◌≢◌, List, None, Some, Result, Ok, Err}
use Rattle.wasm_core.specs.declared.ended.TrapKind.{TrapKind}
use Rattle.wasm_core.specs.declared.ended.NewFault.TheVariants as new
use Rattle.wasm_core.specs.Parts.{Parts}
use Rattle.wasm_core.specs.WordData.{DataNodes}
use Rattle.wasm_core.specs.ModuleGrammar.{SpellsModule, StopsModule}
use Rattle.wasm_core.specs.ModuleTyping.{IsValid}
use Rattle.wasm_core.specs.FirstFault.{FirstFault}
use Rattle.wasm_core.specs.MachineRun.{MachineShown, IsFreshMachine, refusal}
use Rattle.module_run.specs.declared.refusal.RunRefusal.{RunRefusal}
use Rattle.module_run.specs.declared.refusal.RunRefusal.TheVariants as runs
use Rattle.module_run.specs.Ends.{IsAnswered, IsLarge, IsLonger, IsNoValue, IsTrapped}
use Rattle.module_run.specs.declared.file_refusal.FileRefusal.{FileRefusal}
use Rattle.module_run.specs.declared.file_refusal.FileRefusal.TheVariants as refusals

-- the run of `main` of a module by a machine with this bound on its pages, in at most n steps; want of memory says nothing
abbrev pub RunEnds : Parts → (cap n : ℕ) → Result DataNodes FileRefusal → Type 0
RunEnds m cap n (Ok d) = (word : ℕ) × IsAnswered m cap n (record { word = word; tree = d })
RunEnds m cap n (Err refusals.Exhausted) = (kind : TrapKind) × IsTrapped m cap n kind 1
RunEnds m cap n (Err refusals.StepsSpent) = IsLonger m cap n
RunEnds m cap n (Err (refusals.Trapped kind)) = (status : ℕ) × (status ≢ 1) × IsTrapped m cap n kind status
RunEnds m cap n (Err (refusals.NoValue word)) = IsNoValue m cap n word
RunEnds m cap n (Err refusals.AnswerNodes) = IsLarge m cap n
RunEnds m cap n (Err refusals.Memory) = Unit {0}
RunEnds m cap n (Err r) = ⊥

-- no machine is made of the module, or its run ends so
abbrev pub ProgramEnds : Parts → (cap n : ℕ) → Result DataNodes FileRefusal → Type 0
ProgramEnds m cap n (Err (refusals.NoEntry entry)) = refusal m cap ≡ Some (new.NoEntry entry)
ProgramEnds m cap n (Err refusals.Pages) = refusal m cap ≡ Some new.Pages
ProgramEnds m cap n (Err refusals.Table) = refusal m cap ≡ Some new.Table
ProgramEnds m cap n (Err refusals.ElementPastTable) = (segment : ℕ) × (refusal m cap ≡ Some (new.ElementPastTable segment))
ProgramEnds m cap n (Err refusals.Memory) = Unit {0}
ProgramEnds m cap n r = (refusal m cap ≡ None) × RunEnds m cap n r

-- the bytes spell no module, or one without a typing, or a valid one of which this is said
abbrev pub FileEnds : List ℕ → (cap n : ℕ) → Result DataNodes FileRefusal → Type 0
FileEnds bytes cap n (Err (refusals.Bad offset)) = StopsModule bytes offset
FileEnds bytes cap n (Err (refusals.Invalid func place)) = (m : Parts) × SpellsModule bytes m × FirstFault m func place
FileEnds bytes cap n (Err refusals.Memory) = Unit {0}
FileEnds bytes cap n r = (m : Parts) × SpellsModule bytes m × IsValid m × ProgramEnds m cap n r

-- ---- what the stages say

-- the refusal of a run, which never is that of bytes
abbrev pub of_run : RunRefusal → FileRefusal
of_run runs.ModuleBytes = refusals.Memory
of_run runs.Exhausted = refusals.Exhausted
of_run runs.StepsSpent = refusals.StepsSpent
of_run (runs.Trapped kind) = refusals.Trapped kind
of_run (runs.NoValue word) = refusals.NoValue word
of_run runs.AnswerNodes = refusals.AnswerNodes
of_run runs.Memory = refusals.Memory

abbrev pub DecodeSays : Result Parts FileRefusal → List ℕ → Type 0
DecodeSays (Ok m) bytes = SpellsModule bytes m
DecodeSays (Err (refusals.Bad offset)) bytes = StopsModule bytes offset
DecodeSays (Err refusals.Memory) bytes = Unit {0}
DecodeSays (Err r) bytes = ⊥

abbrev pub ValidateSays : Result Parts FileRefusal → Parts → Type 0
ValidateSays (Ok v) m = (v ≡ m) × IsValid m
ValidateSays (Err (refusals.Invalid func place)) m = FirstFault m func place
ValidateSays (Err refusals.Memory) m = Unit {0}
ValidateSays (Err r) m = ⊥

abbrev pub StartSays : Parts → ℕ → Result MachineShown FileRefusal → Type 0
StartSays m cap (Ok a) = (refusal m cap ≡ None) × IsFreshMachine m cap a
StartSays m cap (Err (refusals.NoEntry entry)) = refusal m cap ≡ Some (new.NoEntry entry)
StartSays m cap (Err refusals.Pages) = refusal m cap ≡ Some new.Pages
StartSays m cap (Err refusals.Table) = refusal m cap ≡ Some new.Table
StartSays m cap (Err refusals.ElementPastTable) = (segment : ℕ) × (refusal m cap ≡ Some (new.ElementPastTable segment))
StartSays m cap (Err refusals.Memory) = Unit {0}
StartSays m cap (Err r) = ⊥
