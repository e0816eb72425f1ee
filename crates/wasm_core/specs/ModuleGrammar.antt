-- "These bytes spell this module": the binary format of modules (Core Specification, "Binary Format", chapter 5)
-- as trees of the items that may come.
-- A production says which items come next and hands their value to `k`, which says what comes after them.
use Rattle.std.specs.Prelude.{◌≡◌, ◌⊎◌, ℕ, zero, suc, ◌+◌, List, [], ◌∷◌, ◌++◌, length, replicate, Bool, true, false, ◌&&◌, ◌||◌, not, nat_lt, nat_le, nat_eq, if◌then◌else◌, Option, Some, None, is_some, Result, Ok, Err}
use Rattle.wasm_core.specs.Format.{Format, Give, Nothing, Byte, Number, Name, Size, Skip, End}
use Rattle.wasm_core.specs.Spelling.{SpellsPart, Stops}
use Rattle.wasm_core.specs.Parts.{Parts}
use Rattle.wasm_core.specs.ModuleCondition.{opens_after}
use Rattle.wasm_core.specs.declared.types.ValType.{ValType}
use Rattle.wasm_core.specs.declared.types.ValType.TheVariants.{I32, I64}
use Rattle.wasm_core.specs.declared.types.FuncType.{FuncType}
use Rattle.wasm_core.specs.declared.types.Limits.{Limits}
use Rattle.wasm_core.specs.declared.types.ConstValue.{ConstValue}
use Rattle.wasm_core.specs.declared.types.ConstValue.TheVariants as constants
use Rattle.wasm_core.specs.declared.types.GlobalDef.{GlobalDef}
use Rattle.wasm_core.specs.declared.exports.ExportKind.{ExportKind}
use Rattle.wasm_core.specs.declared.exports.ExportKind.TheVariants as kinds
use Rattle.wasm_core.specs.declared.exports.Export.{Export}
use Rattle.wasm_core.specs.declared.elements.Segment.{Segment}
use Rattle.wasm_core.specs.declared.instrs.BlockType.{BlockType}
use Rattle.wasm_core.specs.declared.instrs.BlockType.TheVariants as block_types
use Rattle.wasm_core.specs.declared.instrs.Access.{Access}
use Rattle.wasm_core.specs.declared.instrs.I32Op.{I32Op}
use Rattle.wasm_core.specs.declared.instrs.I32Op.TheVariants as ops
use Rattle.wasm_core.specs.declared.instrs.Instr.{Instr}
use Rattle.wasm_core.specs.declared.instrs.Instr.TheVariants as instructions
use Rattle.wasm_core.specs.declared.instrs.Body.{Body}
use Rattle.wasm_core.specs.declared.sections.Section.{Section}
use Rattle.wasm_core.specs.declared.sections.Section.TheVariants as sec
use Rattle.wasm_core.specs.declared.binary_faults.DecodeFault.{DecodeFault}
use Rattle.wasm_core.specs.declared.binary_faults.DecodeFault.TheVariants as faults

-- ---- items

-- what is left of a file: the items to come, and the module then
abbrev pub Spelling : Type 0
Spelling = Format Parts

abbrev pub any : ℕ → Bool
any n = true

unfoldable pub byte : ℕ → Spelling → Spelling
byte b k = Byte (λ c. nat_eq c b) (λ c. k)

unfoldable pub u32 : (ℕ → Spelling) → Spelling
u32 k = Number false 32 any k

-- a signed number of 32 bits, given by its bits
unfoldable pub s32 : (ℕ → Spelling) → Spelling
s32 k = Number true 32 any k

-- and of 64 bits
unfoldable pub s64 : (ℕ → Spelling) → Spelling
s64 k = Number true 64 any k

-- the end of a part
unfoldable pub finish : Spelling → Spelling
finish k = End true k Nothing

abbrev pub on : {A : Type 0} → Option A → (A → Spelling) → Spelling
on None k = Nothing
on (Some x) k = k x

-- a byte that has a meaning in a table
abbrev pub coded : {A : Type 0} → (ℕ → Option A) → (A → Spelling) → Spelling
coded table k = Byte (λ b. is_some (table b)) (λ b. on (table b) k)

abbrev pub find : {A : Type 0} → ℕ → List (ℕ × A) → Option A
find b [] = None
find b (row ∷ rows) = if nat_eq b row.0 then Some row.1 else find b rows

-- so many, one after another, after those that are there
unfoldable pub times : {A : Type 0} → ℕ → ((A → Spelling) → Spelling) → List A → (List A → Spelling) → Spelling
times zero one done k = k done
times (suc n) one done k = one (λ x. times n one (done ++ x ∷ []) k)

-- ---- types (section 5.3)

abbrev pub value_types : List (ℕ × ValType)
value_types = (127, I32) ∷ (126, I64) ∷ []

unfoldable pub val_type : (ValType → Spelling) → Spelling
val_type k = coded (λ b. find b value_types) k

unfoldable pub val_types : (List ValType → Spelling) → Spelling
val_types k = u32 (λ n. times n val_type [] k)

-- at most one result
unfoldable pub func_result : (Option ValType → Spelling) → Spelling
func_result k = Number false 32 (λ n. nat_le n 1) (λ n. if nat_eq n 0 then k None else val_type (λ t. k (Some t)))

unfoldable pub func_type : (FuncType → Spelling) → Spelling
func_type k = byte 96 (val_types (λ ps. func_result (λ r. k (record { params = ps; result = r }))))

-- whether a maximum comes
abbrev pub limits_flags : List (ℕ × Bool)
limits_flags = (0, false) ∷ (1, true) ∷ []

unfoldable pub limits_flag : (Bool → Spelling) → Spelling
limits_flag k = coded (λ b. find b limits_flags) k

unfoldable pub limits : (Limits → Spelling) → Spelling
limits k = limits_flag (λ bounded. u32 (λ lo. if bounded then u32 (λ hi. k (record { min = lo; max = Some hi })) else k (record { min = lo; max = None })))

-- whether a global is mutable
abbrev pub mutabilities : List (ℕ × Bool)
mutabilities = (0, false) ∷ (1, true) ∷ []

unfoldable pub mutability : (Bool → Spelling) → Spelling
mutability k = coded (λ b. find b mutabilities) k

abbrev pub block_kinds : List (ℕ × BlockType)
block_kinds = (64, block_types.Empty) ∷ (127, block_types.Value I32) ∷ (126, block_types.Value I64) ∷ []

unfoldable pub block_type : (BlockType → Spelling) → Spelling
block_type k = coded (λ b. find b block_kinds) k

-- ---- instructions (section 5.4)

unfoldable pub indices : (List ℕ → Spelling) → Spelling
indices k = u32 (λ n. times n u32 [] k)

unfoldable pub access : (Access → Spelling) → Spelling
access k = u32 (λ a. u32 (λ o. k (record { align = a; offset = o })))

-- what comes after an opcode
pub data Row : Type 0 where
  Plain : Instr → Row
  Typed : (BlockType → Instr) → Row
  Index : (ℕ → Instr) → Row
  Accessing : (Access → Instr) → Row
  Pair : (ℕ → ℕ → Instr) → Row
  Table : (List ℕ → ℕ → Instr) → Row
  Zeroed : Instr → Row
  Bits : (ℕ → Instr) → Row
  LongBits : (ℕ → Instr) → Row

abbrev pub opcodes : List (ℕ × Row)
opcodes =
    (0, Plain instructions.Unreachable) ∷ (1, Plain instructions.Nop) ∷ (2, Typed instructions.Block) ∷ (3, Typed instructions.Loop) ∷ (4, Typed instructions.If) ∷
    (5, Plain instructions.Else) ∷ (11, Plain instructions.End) ∷ (12, Index instructions.Br) ∷ (13, Index instructions.BrIf) ∷ (14, Table (λ ls l. instructions.BrTable l ls)) ∷
    (15, Plain instructions.Return) ∷ (16, Index instructions.Call) ∷ (17, Pair instructions.CallIndirect) ∷
    (18, Index instructions.ReturnCall) ∷ (19, Pair instructions.ReturnCallIndirect) ∷ (26, Plain instructions.Drop) ∷ (32, Index instructions.LocalGet) ∷
    (33, Index instructions.LocalSet) ∷ (34, Index instructions.LocalTee) ∷ (35, Index instructions.GlobalGet) ∷ (36, Index instructions.GlobalSet) ∷
    (40, Accessing instructions.I32Load) ∷ (45, Accessing instructions.I32Load8U) ∷ (54, Accessing instructions.I32Store) ∷ (58, Accessing instructions.I32Store8) ∷
    (63, Zeroed instructions.MemorySize) ∷ (64, Zeroed instructions.MemoryGrow) ∷ (65, Bits instructions.I32Const) ∷ (66, LongBits instructions.I64Const) ∷ []

abbrev pub operations : List (ℕ × I32Op)
operations =
    (69, ops.Eqz) ∷ (70, ops.Eq) ∷ (71, ops.Ne) ∷ (72, ops.LtS) ∷ (73, ops.LtU) ∷ (74, ops.GtS) ∷ (75, ops.GtU) ∷ (76, ops.LeS) ∷ (77, ops.LeU) ∷ (78, ops.GeS) ∷ (79, ops.GeU) ∷
    (106, ops.Add) ∷ (107, ops.Sub) ∷ (108, ops.Mul) ∷ (113, ops.And) ∷ (114, ops.Or) ∷ (115, ops.Xor) ∷ (116, ops.Shl) ∷ (117, ops.ShrS) ∷ (118, ops.ShrU) ∷ []

unfoldable pub row : Row → (Instr → Spelling) → Spelling
row (Plain i) k = k i
row (Typed i) k = block_type (λ t. k (i t))
row (Index i) k = u32 (λ n. k (i n))
row (Accessing i) k = access (λ a. k (i a))
row (Pair i) k = u32 (λ a. u32 (λ b. k (i a b)))
row (Table i) k = indices (λ ls. u32 (λ l. k (i ls l)))
row (Zeroed i) k = byte 0 (k i)
row (Bits i) k = s32 (λ n. k (i n))
row (LongBits i) k = s64 (λ n. k (i n))

abbrev pub operation_row : Option I32Op → Option Row
operation_row None = None
operation_row (Some op) = Some (Plain (instructions.I32 op))

abbrev pub row_or : Option Row → Option I32Op → Option Row
row_or (Some r) o = Some r
row_or None o = operation_row o

-- the opcodes, where an `else` may come or not
abbrev pub opcode : (may_else : Bool) → ℕ → Option Row
opcode may b = if nat_eq b 5 && not may then None else row_or (find b opcodes) (find b operations)

unfoldable pub instr : (may_else : Bool) → (Instr → Spelling) → Spelling
instr may k = coded (opcode may) (λ r. row r k)

-- The instructions up to the `end` that closes the last open block. Each takes a byte at least, so at most `fuel` of them fit.
unfoldable pub instrs : (fuel : ℕ) → List Bool → List Instr → (List Instr → Spelling) → Spelling
instrs fuel [] done k = k done
instrs zero (o ∷ os) done k = Nothing
instrs (suc fuel) (o ∷ os) done k = instr o (λ i. instrs fuel (opens_after i (o ∷ os)) (done ++ i ∷ []) k)

abbrev pub constant_opcodes : List (ℕ × ValType)
constant_opcodes = (65, I32) ∷ (66, I64) ∷ []

abbrev pub constant_of : ValType → (ConstValue → Spelling) → Spelling
constant_of I32 k = s32 (λ n. byte 11 (k (constants.I32 n)))
constant_of I64 k = s64 (λ n. byte 11 (k (constants.I64 n)))

-- the value of a constant expression: a constant and `end`
unfoldable pub constant : (ConstValue → Spelling) → Spelling
constant k = coded (λ b. find b constant_opcodes) (λ t. constant_of t k)

-- ---- bodies (section 5.5.13)

-- groups of locals, at most 50,000 in all
unfoldable pub groups : ℕ → List ValType → (List ValType → Spelling) → Spelling
groups zero done k = k done
groups (suc n) done k = Number false 32 (λ c. nat_le (length done + c) 50000) (λ c. val_type (λ t. groups n (done ++ replicate c t) k))

unfoldable pub locals : (List ValType → Spelling) → Spelling
locals k = u32 (λ n. groups n [] k)

-- A body of n bytes has at most n instructions.
unfoldable pub body : (Body → Spelling) → Spelling
body k = Size (λ n. locals (λ ls. instrs n (false ∷ []) [] (λ is. finish (k (record { locals = ls; code = is })))))

-- ---- sections (section 5.5)

unfoldable pub func_types : (List FuncType → Spelling) → Spelling
func_types k = u32 (λ n. times n func_type [] k)

-- a table of functions
unfoldable pub table_type : (Limits → Spelling) → Spelling
table_type k = byte 112 (limits k)

-- at most one table
unfoldable pub table : (Option Limits → Spelling) → Spelling
table k = Number false 32 (λ n. nat_le n 1) (λ n. if nat_eq n 0 then k None else table_type (λ l. k (Some l)))

-- at most one memory
unfoldable pub memory : (Option Limits → Spelling) → Spelling
memory k = Number false 32 (λ n. nat_le n 1) (λ n. if nat_eq n 0 then k None else limits (λ l. k (Some l)))

unfoldable pub global : (GlobalDef → Spelling) → Spelling
global k = val_type (λ t. mutability (λ m. constant (λ c. k (record { mutable = m; ty = t; init = c }))))

unfoldable pub globals : (List GlobalDef → Spelling) → Spelling
globals k = u32 (λ n. times n global [] k)

abbrev pub export_kinds : List (ℕ × ExportKind)
export_kinds = (0, kinds.Func) ∷ (1, kinds.Table) ∷ (2, kinds.Memory) ∷ (3, kinds.Global) ∷ []

unfoldable pub export_kind : (ExportKind → Spelling) → Spelling
export_kind k = coded (λ b. find b export_kinds) k

unfoldable pub exported : (Export → Spelling) → Spelling
exported k = Name (λ s. export_kind (λ e. u32 (λ i. k (record { name = s; kind = e; index = i }))))

unfoldable pub exports : (List Export → Spelling) → Spelling
exports k = u32 (λ n. times n exported [] k)

-- an element segment for the one table: the flag 0, an i32.const and `end`, and the functions
unfoldable pub segment : (Segment → Spelling) → Spelling
segment k = Number false 32 (λ n. nat_eq n 0) (λ n. byte 65 (s32 (λ o. byte 11 (indices (λ fs. k (record { offset = o; funcs = fs }))))))

unfoldable pub segments : (List Segment → Spelling) → Spelling
segments k = u32 (λ n. times n segment [] k)

-- as many bodies as functions
unfoldable pub bodies : (funcs : ℕ) → (List Body → Spelling) → Spelling
bodies funcs k = Number false 32 (λ n. nat_eq n funcs) (λ n. times n body [] k)

-- the contents of a section
unfoldable pub contents : Section → Parts → (Parts → Spelling) → Spelling
contents sec.Custom m k = Name (λ s. Skip (k m))
contents sec.Types m k = func_types (λ ts. k (record m { types = ts }))
contents sec.Functions m k = indices (λ fs. k (record m { funcs = fs }))
contents sec.Tables m k = table (λ l. k (record m { table = l }))
contents sec.Memories m k = memory (λ l. k (record m { memory = l }))
contents sec.Globals m k = globals (λ gs. k (record m { globals = gs }))
contents sec.Exports m k = exports (λ es. k (record m { exports = es }))
contents sec.Elements m k = segments (λ es. k (record m { elements = es }))
contents sec.Codes m k = bodies (length m.funcs) (λ bs. k (record m { bodies = bs }))

unfoldable pub section : Section → Parts → (Parts → Spelling) → Spelling
section s m k = Size (λ n. contents s m (λ m'. finish (k m')))

abbrev pub sections_by_id : List (ℕ × Section)
sections_by_id = (0, sec.Custom) ∷ (1, sec.Types) ∷ (3, sec.Functions) ∷ (4, sec.Tables) ∷ (5, sec.Memories) ∷ (6, sec.Globals) ∷ (7, sec.Exports) ∷ (9, sec.Elements) ∷ (10, sec.Codes) ∷ []

-- The ids rise, so each section comes at most once; custom sections stand anywhere between.
abbrev pub section_id : (last : ℕ) → ℕ → Option Section
section_id last b = if nat_eq b 0 || nat_lt last b then find b sections_by_id else None

-- the id of the last section that isn't custom
abbrev pub last_after : ℕ → ℕ → ℕ
last_after last b = if nat_eq b 0 then last else b

-- a section after that with the id `last`, and the last id then
unfoldable pub next_section : (last : ℕ) → Parts → (ℕ × Parts → Spelling) → Spelling
next_section last m k = Byte (λ b. is_some (section_id last b)) (λ b. on (section_id last b) (λ s. section s m (λ m'. k (last_after last b, m'))))

abbrev pub is_whole : Parts → Bool
is_whole m = nat_eq (length m.funcs) (length m.bodies)

-- The sections. Each takes a byte at least, so at most `fuel` of them fit. At the end each function has its body.
unfoldable pub sections : (fuel : ℕ) → (last : ℕ) → Parts → Spelling
sections zero last m = End (is_whole m) (Give m) Nothing
sections (suc fuel) last m = End (is_whole m) (Give m) (next_section last m (λ p. sections fuel p.0 p.1))

-- the magic number and the version (section 5.5.16)
unfoldable pub header : Spelling → Spelling
header k = byte 0 (byte 97 (byte 115 (byte 109 (byte 1 (byte 0 (byte 0 (byte 0 k)))))))

abbrev pub empty : Parts
empty = record { types = []; funcs = []; table = None; memory = None; globals = []; exports = []; elements = []; bodies = [] }

-- A file of n bytes has at most n sections.
unfoldable pub file : (n : ℕ) → Spelling
file n = header (sections n 0 empty)

-- ---- modules

-- these bytes spell this module
abbrev pub SpellsModule : List ℕ → Parts → Type 0
SpellsModule bytes m = SpellsPart (file (length bytes)) bytes [] m

-- these bytes spell none, and the first item without a spelling in its place begins at this offset
abbrev pub StopsModule : List ℕ → ℕ → Type 0
StopsModule bytes o = Stops (file (length bytes)) 0 bytes [] o

-- No bytes spell two modules, or stop at two offsets, or do both; and any bytes do one of the two.
pub record GrammarIsExact : Type 0 where
  pub one_module : (bytes : List ℕ) (a b : Parts) → SpellsModule bytes a → SpellsModule bytes b → a ≡ b
  pub one_offset : (bytes : List ℕ) (a b : ℕ) → StopsModule bytes a → StopsModule bytes b → a ≡ b
  pub not_both : (bytes : List ℕ) (m : Parts) (o : ℕ) → SpellsModule bytes m → StopsModule bytes o → ⊥
  pub one_of_both : (bytes : List ℕ) → ((m : Parts) × SpellsModule bytes m) ⊎ ((o : ℕ) × StopsModule bytes o)

-- ---- what reading answers

-- the module that the bytes spell, or the offset at which they spell none; or want of memory
abbrev pub Explains : Result Parts DecodeFault → List ℕ → Type 0
Explains (Ok m) bytes = SpellsModule bytes m
Explains (Err faults.Memory) bytes = Unit {0}
Explains (Err (faults.Bad o)) bytes = StopsModule bytes o

-- this module, or want of memory
abbrev pub DecodesTo : Parts → Result Parts DecodeFault → Type 0
DecodesTo m (Ok x) = x ≡ m
DecodesTo m (Err faults.Memory) = Unit {0}
DecodesTo m (Err (faults.Bad o)) = ⊥

-- a refusal at this offset, or want of memory
abbrev pub RefusesAt : ℕ → Result Parts DecodeFault → Type 0
RefusesAt n (Ok x) = ⊥
RefusesAt n (Err faults.Memory) = Unit {0}
RefusesAt n (Err (faults.Bad o)) = o ≡ n
