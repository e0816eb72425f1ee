-- The modules that the binary format can spell (Core Specification, "Binary Format"), by their parts.
-- Sizes are left out of this condition: a section or a body of 2^32 bytes or more has no spelling either, and isn't refused here.
-- A module whose bytes pass 16 MiB isn't written.
use Rattle.std.specs.Prelude.{ℕ, ◌^◌, ◌<◌, ◌≤◌, ◌≡◌, List, [], ◌∷◌, length, Option, Some, None, IsUtf8, Bool, true, false}
use Rattle.wasm_core.specs.declared.types.FuncType.{FuncType}
use Rattle.wasm_core.specs.declared.types.Limits.{Limits}
use Rattle.wasm_core.specs.declared.types.ConstValue.{ConstValue}
use Rattle.wasm_core.specs.declared.types.ConstValue.TheVariants as constants
use Rattle.wasm_core.specs.declared.types.GlobalDef.{GlobalDef}
use Rattle.wasm_core.specs.declared.exports.Export.{Export}
use Rattle.wasm_core.specs.declared.elements.Segment.{Segment}
use Rattle.wasm_core.specs.declared.instrs.Access.{Access}
use Rattle.wasm_core.specs.declared.instrs.Instr.{Instr}
use Rattle.wasm_core.specs.declared.instrs.Instr.TheVariants as instrs
use Rattle.wasm_core.specs.declared.instrs.Body.{Body}
use Rattle.wasm_core.specs.Parts.{Parts}

abbrev pub All : {A : Type 0} → (A → Type 0) → List A → Type 0
All P [] = Unit {0}
All P (x ∷ xs) = P x × All P xs

-- a number of 32 bits
abbrev pub IsU32 : ℕ → Type 0
IsU32 n = n < 2 ^ 32

-- a list whose count has 32 bits, and whose items meet a condition
abbrev pub IsVector : {A : Type 0} → (A → Type 0) → List A → Type 0
IsVector P xs = IsU32 (length xs) × All P xs

abbrev pub IsFuncType : FuncType → Type 0
IsFuncType t = IsU32 (length t.params)

abbrev pub IsMaximum : Option ℕ → Type 0
IsMaximum None = Unit {0}
IsMaximum (Some n) = IsU32 n

abbrev pub IsLimits : Limits → Type 0
IsLimits l = IsU32 l.min × IsMaximum l.max

-- the table's or the memory's, where there is one
abbrev pub AreSizes : Option Limits → Type 0
AreSizes None = Unit {0}
AreSizes (Some l) = IsLimits l

-- a number of 64 bits
abbrev pub IsU64 : ℕ → Type 0
IsU64 n = n < 2 ^ 64

abbrev pub IsConstValue : ConstValue → Type 0
IsConstValue (constants.I32 n) = IsU32 n
IsConstValue (constants.I64 n) = IsU64 n

abbrev pub IsGlobal : GlobalDef → Type 0
IsGlobal g = IsConstValue g.init

abbrev pub IsExport : Export → Type 0
IsExport e = IsUtf8 e.name × IsU32 (length e.name) × IsU32 e.index

abbrev pub IsSegment : Segment → Type 0
IsSegment s = IsU32 s.offset × IsVector IsU32 s.funcs

abbrev pub IsAccess : Access → Type 0
IsAccess a = IsU32 a.align × IsU32 a.offset

-- an instruction whose immediates have their bits
abbrev pub IsInstr : Instr → Type 0
IsInstr (instrs.Br n) = IsU32 n
IsInstr (instrs.BrIf n) = IsU32 n
IsInstr (instrs.BrTable l ls) = IsVector IsU32 ls × IsU32 l
IsInstr (instrs.Call n) = IsU32 n
IsInstr (instrs.CallIndirect index table) = IsU32 index × IsU32 table
IsInstr (instrs.ReturnCall n) = IsU32 n
IsInstr (instrs.ReturnCallIndirect index table) = IsU32 index × IsU32 table
IsInstr (instrs.LocalGet n) = IsU32 n
IsInstr (instrs.LocalSet n) = IsU32 n
IsInstr (instrs.LocalTee n) = IsU32 n
IsInstr (instrs.GlobalGet n) = IsU32 n
IsInstr (instrs.GlobalSet n) = IsU32 n
IsInstr (instrs.I32Load a) = IsAccess a
IsInstr (instrs.I32Load8U a) = IsAccess a
IsInstr (instrs.I32Store a) = IsAccess a
IsInstr (instrs.I32Store8 a) = IsAccess a
IsInstr (instrs.I32Const n) = IsU32 n
IsInstr (instrs.I64Const n) = IsU64 n
IsInstr _ = Unit {0}

-- Of each open block, the innermost first, whether its `else` may still come; the body is the outermost.
abbrev pub opens_after : Instr → List Bool → List Bool
opens_after (instrs.Block t) os = false ∷ os
opens_after (instrs.Loop t) os = false ∷ os
opens_after (instrs.If t) os = true ∷ os
opens_after instrs.Else (o ∷ os) = false ∷ os
opens_after instrs.End (o ∷ os) = os
opens_after _ os = os

-- an `else` may come
abbrev pub MayCome : Bool → Instr → Type 0
MayCome o instrs.Else = o ≡ true
MayCome o _ = Unit {0}

-- Each open block is closed by its `end`, an `else` comes only once in an `if`, and nothing comes after the last `end`.
abbrev pub IsClosed : List Bool → List Instr → Type 0
IsClosed [] [] = Unit {0}
IsClosed [] (i ∷ is) = ⊥
IsClosed (o ∷ os) [] = ⊥
IsClosed (o ∷ os) (i ∷ is) = MayCome o i × IsInstr i × IsClosed (opens_after i (o ∷ os)) is

-- at most 50,000 locals, and the code up to the body's own `end`
abbrev pub IsBody : Body → Type 0
IsBody b = (length b.locals ≤ 50000) × IsClosed (false ∷ []) b.code

pub record IsModule (m : Parts) : Type 0 where
  pub types : IsVector IsFuncType m.types
  pub funcs : IsVector IsU32 m.funcs
  pub table : AreSizes m.table
  pub memory : AreSizes m.memory
  pub globals : IsVector IsGlobal m.globals
  pub exports : IsVector IsExport m.exports
  pub elements : IsVector IsSegment m.elements
  pub bodies : IsVector IsBody m.bodies
  pub whole : length m.funcs ≡ length m.bodies
