-- What the steps of a run tell: each step with its class, and each grow of memory that isn't refused.
use Rattle.std.specs.Prelude.{ℕ, zero, suc, ◌≡◌, List, [], ◌∷◌, ◌++◌, Bool, true, false, ◌&&◌}
use Rattle.reports.specs.declared.fact.Fact.{Fact}
use Rattle.reports.specs.declared.fact.Fact.TheVariants.{StepDone, Grew}
use Rattle.wasm_core.specs.declared.instrs.Instr.{Instr}
use Rattle.wasm_core.specs.declared.instrs.Instr.TheVariants.{Unreachable, Nop, Block, Loop, If, Else, End, Br, BrIf, BrTable, Return, Call, CallIndirect, ReturnCall, ReturnCallIndirect, Drop, LocalGet, LocalSet, LocalTee, GlobalGet, GlobalSet, I32Load, I32Load8U, I32Store, I32Store8, MemorySize, MemoryGrow, I32Const, I64Const, I32}
use Rattle.wasm_core.specs.Parts.{Parts}
use Rattle.wasm_core.specs.Instance.{greatest_pages}
use Rattle.wasm_core.specs.MachineStep.{Conf, State, At, Over}
use Rattle.wasm_core.specs.Runs.{Move, grants, stays_within}

-- The class of the step that executes an instruction. At an `else` or an `end` the step is the leaving of an arm, a block, a loop or the function.
abbrev pub class_of : Instr → ℕ
class_of Unreachable = 1
class_of Nop = 1
class_of (Block t) = 1
class_of (Loop t) = 1
class_of (If t) = 1
class_of (Br l) = 1
class_of (BrIf l) = 1
class_of (BrTable l ls) = 1
class_of Return = 1
class_of Drop = 1
class_of (Call f) = 2
class_of (CallIndirect t x) = 2
class_of (ReturnCall f) = 2
class_of (ReturnCallIndirect t x) = 2
class_of (LocalGet x) = 3
class_of (LocalSet x) = 3
class_of (LocalTee x) = 3
class_of (GlobalGet x) = 3
class_of (GlobalSet x) = 3
class_of (I32Load a) = 4
class_of (I32Load8U a) = 4
class_of (I32Store a) = 4
class_of (I32Store8 a) = 4
class_of MemorySize = 4
class_of MemoryGrow = 4
class_of (I32Const n) = 5
class_of (I64Const n) = 5
class_of (I32 op) = 5
class_of Else = 6
class_of End = 6

-- A grow here isn't refused: the pages stay within the machine's bound, and within the module's maximum.
abbrev pub is_granted : Parts → ℕ → Conf → Bool
is_granted m cap c = grants cap c && stays_within (greatest_pages m.memory) c.store.pages c.current.operands

abbrev pub grow_facts : Bool → List Fact
grow_facts true = Grew ∷ []
grow_facts false = []

-- whether the instruction is a grow that isn't refused
abbrev pub is_grow : Parts → ℕ → Instr → Conf → Bool
is_grow m cap MemoryGrow c = is_granted m cap c
is_grow m cap _ c = false

-- the facts of the step from here: its class, and then the grow
abbrev pub facts_at : Parts → ℕ → List Instr → Conf → List Fact
facts_at m cap [] c = []
facts_at m cap (i ∷ rest) c = StepDone (class_of i) ∷ grow_facts (is_grow m cap i c)

abbrev pub step_facts : Parts → ℕ → State → List Fact
step_facts m cap (At c) = facts_at m cap c.current.rest c
step_facts m cap (Over e store) = []

-- k steps of a machine with this bound on its pages, and their facts, in order
abbrev pub Tells : Parts → (cap k : ℕ) → (s t : State) → List Fact → Type 0
Tells m cap zero s t facts = (s ≡ t) × (facts ≡ [])
Tells m cap (suc k) s t facts = (mid : State) × (before : List Fact) × Tells m cap k s mid before × Move m cap mid t × (facts ≡ before ++ step_facts m cap mid)
