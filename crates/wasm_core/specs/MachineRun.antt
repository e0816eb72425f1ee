-- Runs of a machine with a bound on its pages, as its users see them.
use Rattle.std.specs.Prelude.{ℕ, suc, List, [], ◌∷◌, Option, None, nat_le, if◌then◌else◌, ◌≡◌, ◌+◌, ◌-◌, ◌^◌, ◌≤◌, Bool, true, false, Some, Result, Ok, Err, min}
use Rattle.wasm_core.specs.declared.ended.Ended.{Ended}
use Rattle.wasm_core.specs.declared.ended.RunFault.{RunFault}
use Rattle.wasm_core.specs.declared.ended.RunFault.TheVariants.{StepsSpent, Failed, Memory}
use Rattle.wasm_core.specs.declared.ended.NewFault.{NewFault}
use Rattle.wasm_core.specs.declared.ended.NewFault.TheVariants.{NoEntry, ElementPastTable, Pages, Table}
use Rattle.wasm_core.specs.declared.ended.NewFault.TheVariants as new
use Rattle.wasm_core.specs.declared.entries.Entry.{Entry}
use Rattle.wasm_core.specs.declared.elements.Segment.{Segment}
use Rattle.wasm_core.specs.Instance.{least, segment_fits}
use Rattle.wasm_core.specs.Entries.{missing, missing_for_call}
use Rattle.wasm_core.specs.Parts.{Parts}
use Rattle.wasm_core.specs.MachineStep.{State, At, Over}
use Rattle.wasm_core.specs.Runs.{Moves, main_start}

abbrev pub HasEndedAs : Ended → State → Type 0
HasEndedAs e (At c) = ⊥
HasEndedAs e (Over f store) = f ≡ e

abbrev pub GoesOn : State → Type 0
GoesOn (At c) = Unit {0}
GoesOn (Over e store) = ⊥

-- a machine as its users see it: the state of its run, the steps made so far, and whether it has failed for want of memory
pub record MachineShown : Type 0 where
  pub program : Parts
  pub cap : ℕ
  pub state : State
  pub made : ℕ
  pub failed : Bool

-- k steps were made from one to the other; the count of steps stops at the last value of its 64 bits
pub record Ran (old new : MachineShown) (k : ℕ) : Type 0 where
  pub moves : Moves old.program old.cap k old.state new.state
  pub counted : new.made ≡ min (old.made + k) (2 ^ 64 - 1)
  pub same_program : new.program ≡ old.program
  pub same_cap : new.cap ≡ old.cap

-- a machine at the start of a run of `main`, with this bound on its pages
abbrev pub IsFreshMachine : Parts → ℕ → MachineShown → Type 0
IsFreshMachine m cap a = (s : State) × (main_start m ≡ Some s) × (a ≡ record { program = m; cap = cap; state = s; made = 0; failed = false })

-- What a call of `run` with at most n steps says by its answer. After want of memory the machine has failed, and no more is said of it.
abbrev pub MachineSays : MachineShown → MachineShown → ℕ → Result Ended RunFault → Type 0
MachineSays old new n (Ok e) = (old.failed ≡ false) × (new.failed ≡ false) × ((k : ℕ) × (k ≤ n) × Ran old new k × HasEndedAs e new.state)
MachineSays old new n (Err StepsSpent) = (old.failed ≡ false) × (new.failed ≡ false) × Ran old new n × GoesOn new.state
MachineSays old new n (Err Failed) = (old.failed ≡ true) × (new ≡ old)
MachineSays old new n (Err Memory) = (old.failed ≡ false) × (new.failed ≡ true)

-- the first segment, counted from n, that doesn't fit a table of this size
abbrev pub first_past : ℕ → ℕ → List Segment → Option ℕ
first_past n size [] = None
first_past n size (s ∷ segments) = if segment_fits size s then first_past (suc n) size segments else Some n

abbrev pub past_fault : Option ℕ → Option NewFault
past_fault None = None
past_fault (Some n) = Some (ElementPastTable n)

abbrev pub unless_missing : Option Entry → Option NewFault → Option NewFault
unless_missing None others = others
unless_missing (Some n) others = Some (NoEntry n)

-- why no machine with this bound on its pages is made of a module whose entries are there: its pages come first, then its table and its segments
abbrev pub size_refusal : Parts → ℕ → Option NewFault
size_refusal m cap = if nat_le (least m.memory) cap then (if nat_le (least m.table) 65536 then past_fault (first_past 0 (least m.table) m.elements) else Some Table) else Some Pages

-- Why no machine with this bound on its pages is made of a module: a missing entry comes first.
abbrev pub refusal : Parts → ℕ → Option NewFault
refusal m cap = unless_missing (missing m) (size_refusal m cap)

-- why none is made for a host that gives arguments
abbrev pub refusal_for_call : Parts → ℕ → Option NewFault
refusal_for_call m cap = unless_missing (missing_for_call m) (size_refusal m cap)

-- what making a machine answers; want of memory says nothing
abbrev pub Makes : Parts → ℕ → Result MachineShown NewFault → Type 0
Makes m cap (Ok a) = (refusal m cap ≡ None) × IsFreshMachine m cap a
Makes m cap (Err new.Memory) = Unit {0}
Makes m cap (Err fault) = refusal m cap ≡ Some fault

-- what making one answers for a host that gives arguments
abbrev pub MakesForCall : Parts → ℕ → Result MachineShown NewFault → Type 0
MakesForCall m cap (Ok a) = (refusal_for_call m cap ≡ None) × IsFreshMachine m cap a
MakesForCall m cap (Err new.Memory) = Unit {0}
MakesForCall m cap (Err fault) = refusal_for_call m cap ≡ Some fault
