-- The shortest bytes that spell a module: each number in its shortest form, each run of equal local types as one count, no empty section.
-- A function gives the bytes of one thing before the bytes that come after it.
use Rattle.std.specs.Prelude.{◌≡◌, ℕ, zero, suc, ◌+◌, ◌-◌, ◌/◌, ◌%◌, ◌^◌, ◌<◌, ◌≤◌, List, [], ◌∷◌, ◌++◌, length, Bool, true, false, ◌&&◌, nat_lt, nat_le, if◌then◌else◌, Option, Some, None, Result, Ok, Err}
use Rattle.wasm_core.specs.Parts.{Parts}
use Rattle.wasm_core.specs.ModuleGrammar.{SpellsModule}
use Rattle.wasm_core.specs.declared.types.ValType.{ValType}
use Rattle.wasm_core.specs.declared.types.ValType.TheVariants.{I32, I64}
use Rattle.wasm_core.specs.declared.types.FuncType.{FuncType}
use Rattle.wasm_core.specs.declared.types.Limits.{Limits}
use Rattle.wasm_core.specs.declared.types.ConstValue.{ConstValue}
use Rattle.wasm_core.specs.declared.types.ConstValue.TheVariants as constants
use Rattle.wasm_core.specs.declared.types.GlobalDef.{GlobalDef}
use Rattle.wasm_core.specs.declared.exports.ExportKind.{ExportKind}
use Rattle.wasm_core.specs.declared.exports.ExportKind.TheVariants as kinds
use Rattle.wasm_core.specs.declared.exports.Export.{Export}
use Rattle.wasm_core.specs.declared.elements.Segment.{Segment}
use Rattle.wasm_core.specs.declared.instrs.BlockType.{BlockType}
use Rattle.wasm_core.specs.declared.instrs.BlockType.TheVariants as block_types
use Rattle.wasm_core.specs.declared.instrs.Access.{Access}
use Rattle.wasm_core.specs.declared.instrs.I32Op.{I32Op}
use Rattle.wasm_core.specs.declared.instrs.I32Op.TheVariants as ops
use Rattle.wasm_core.specs.declared.instrs.Instr.{Instr}
use Rattle.wasm_core.specs.declared.instrs.Instr.TheVariants as instructions
use Rattle.wasm_core.specs.declared.instrs.Body.{Body}
use Rattle.wasm_core.specs.declared.binary_faults.EncodeFault.{EncodeFault}
use Rattle.wasm_core.specs.declared.binary_faults.EncodeFault.TheVariants as faults

-- ---- numbers

-- in at most so many groups of seven bits
unfoldable pub unsigned : (groups : ℕ) → ℕ → List ℕ → List ℕ
unsigned zero n w = w
unsigned (suc g) n w = if nat_lt n 128 then n ∷ w else (n % 128 + 128) ∷ unsigned g (n / 128) w

-- a number of this many bits that isn't negative and fits one byte
abbrev pub is_low : (bits : ℕ) → ℕ → Bool
is_low bits n = nat_lt n 64 && nat_lt n (2 ^ (bits - 1))

-- the bits of a negative number that fits one byte
abbrev pub is_high : (bits : ℕ) → ℕ → Bool
is_high bits n = nat_le (2 ^ bits) (n + 64)

-- a signed number, given by its bits
unfoldable pub signed : (groups : ℕ) → (bits : ℕ) → ℕ → List ℕ → List ℕ
signed zero bits n w = w
signed (suc g) bits n w =
    if is_low bits n then n ∷ w
    else if is_high bits n then (128 - (2 ^ bits - n)) ∷ w
    else (n % 128 + 128) ∷ signed g (bits - 7) (n / 128) w

abbrev pub put_u32 : ℕ → List ℕ → List ℕ
put_u32 n w = unsigned 5 n w

abbrev pub put_s32 : ℕ → List ℕ → List ℕ
put_s32 n w = signed 5 32 n w

abbrev pub put_s64 : ℕ → List ℕ → List ℕ
put_s64 n w = signed 10 64 n w

unfoldable pub put_all : {A : Type 0} → (A → List ℕ → List ℕ) → List A → List ℕ → List ℕ
put_all one [] w = w
put_all one (x ∷ xs) w = one x (put_all one xs w)

abbrev pub put_list : {A : Type 0} → (A → List ℕ → List ℕ) → List A → List ℕ → List ℕ
put_list one xs w = put_u32 (length xs) (put_all one xs w)

-- a part: its size and its bytes
abbrev pub put_sized : List ℕ → List ℕ → List ℕ
put_sized part w = put_u32 (length part) (part ++ w)

-- ---- types

abbrev pub val_type_code : ValType → ℕ
val_type_code I32 = 127
val_type_code I64 = 126

abbrev pub put_val_type : ValType → List ℕ → List ℕ
put_val_type t w = val_type_code t ∷ w

abbrev pub put_result : Option ValType → List ℕ → List ℕ
put_result None w = 0 ∷ w
put_result (Some t) w = 1 ∷ put_val_type t w

unfoldable pub put_func_type : FuncType → List ℕ → List ℕ
put_func_type t w = 96 ∷ put_list put_val_type t.params (put_result t.result w)

abbrev pub put_bounds : ℕ → Option ℕ → List ℕ → List ℕ
put_bounds lo None w = 0 ∷ put_u32 lo w
put_bounds lo (Some hi) w = 1 ∷ put_u32 lo (put_u32 hi w)

unfoldable pub put_limits : Limits → List ℕ → List ℕ
put_limits l w = put_bounds l.min l.max w

abbrev pub flag : Bool → ℕ
flag false = 0
flag true = 1

-- a constant and `end`
abbrev pub put_constant : ConstValue → List ℕ → List ℕ
put_constant (constants.I32 n) w = 65 ∷ put_s32 n (11 ∷ w)
put_constant (constants.I64 n) w = 66 ∷ put_s64 n (11 ∷ w)

unfoldable pub put_global : GlobalDef → List ℕ → List ℕ
put_global g w = put_val_type g.ty (flag g.mutable ∷ put_constant g.init w)

-- ---- exports

abbrev pub put_name : List ℕ → List ℕ → List ℕ
put_name s w = put_u32 (length s) (s ++ w)

abbrev pub kind_code : ExportKind → ℕ
kind_code kinds.Func = 0
kind_code kinds.Table = 1
kind_code kinds.Memory = 2
kind_code kinds.Global = 3

unfoldable pub put_export : Export → List ℕ → List ℕ
put_export e w = put_name e.name (kind_code e.kind ∷ put_u32 e.index w)

-- ---- bodies

abbrev pub block_type_code : BlockType → ℕ
block_type_code block_types.Empty = 64
block_type_code (block_types.Value t) = val_type_code t

abbrev pub operation_code : I32Op → ℕ
operation_code ops.Eqz = 69
operation_code ops.Eq = 70
operation_code ops.Ne = 71
operation_code ops.LtS = 72
operation_code ops.LtU = 73
operation_code ops.GtS = 74
operation_code ops.GtU = 75
operation_code ops.LeS = 76
operation_code ops.LeU = 77
operation_code ops.GeS = 78
operation_code ops.GeU = 79
operation_code ops.Add = 106
operation_code ops.Sub = 107
operation_code ops.Mul = 108
operation_code ops.And = 113
operation_code ops.Or = 114
operation_code ops.Xor = 115
operation_code ops.Shl = 116
operation_code ops.ShrS = 117
operation_code ops.ShrU = 118

abbrev pub put_access : Access → List ℕ → List ℕ
put_access a w = put_u32 a.align (put_u32 a.offset w)

unfoldable pub put_instr : Instr → List ℕ → List ℕ
put_instr instructions.Unreachable w = 0 ∷ w
put_instr instructions.Nop w = 1 ∷ w
put_instr (instructions.Block t) w = 2 ∷ block_type_code t ∷ w
put_instr (instructions.Loop t) w = 3 ∷ block_type_code t ∷ w
put_instr (instructions.If t) w = 4 ∷ block_type_code t ∷ w
put_instr instructions.Else w = 5 ∷ w
put_instr instructions.End w = 11 ∷ w
put_instr (instructions.Br n) w = 12 ∷ put_u32 n w
put_instr (instructions.BrIf n) w = 13 ∷ put_u32 n w
put_instr (instructions.BrTable l ls) w = 14 ∷ put_list put_u32 ls (put_u32 l w)
put_instr instructions.Return w = 15 ∷ w
put_instr (instructions.Call n) w = 16 ∷ put_u32 n w
put_instr (instructions.CallIndirect index table) w = 17 ∷ put_u32 index (put_u32 table w)
put_instr (instructions.ReturnCall n) w = 18 ∷ put_u32 n w
put_instr (instructions.ReturnCallIndirect index table) w = 19 ∷ put_u32 index (put_u32 table w)
put_instr instructions.Drop w = 26 ∷ w
put_instr (instructions.LocalGet n) w = 32 ∷ put_u32 n w
put_instr (instructions.LocalSet n) w = 33 ∷ put_u32 n w
put_instr (instructions.LocalTee n) w = 34 ∷ put_u32 n w
put_instr (instructions.GlobalGet n) w = 35 ∷ put_u32 n w
put_instr (instructions.GlobalSet n) w = 36 ∷ put_u32 n w
put_instr (instructions.I32Load a) w = 40 ∷ put_access a w
put_instr (instructions.I32Load8U a) w = 45 ∷ put_access a w
put_instr (instructions.I32Store a) w = 54 ∷ put_access a w
put_instr (instructions.I32Store8 a) w = 58 ∷ put_access a w
put_instr instructions.MemorySize w = 63 ∷ 0 ∷ w
put_instr instructions.MemoryGrow w = 64 ∷ 0 ∷ w
put_instr (instructions.I32Const n) w = 65 ∷ put_s32 n w
put_instr (instructions.I64Const n) w = 66 ∷ put_s64 n w
put_instr (instructions.I32 op) w = operation_code op ∷ w

abbrev pub same_type : ValType → ValType → Bool
same_type I32 I32 = true
same_type I64 I64 = true
same_type _ _ = false

-- one local more, before the runs that are there
abbrev pub add_local : ValType → List (ℕ × ValType) → List (ℕ × ValType)
add_local t [] = (1, t) ∷ []
add_local t (r ∷ rs) = if same_type t r.1 then (r.0 + 1, t) ∷ rs else (1, t) ∷ r ∷ rs

-- each run of equal types with its count
unfoldable pub runs : List ValType → List (ℕ × ValType)
runs [] = []
runs (t ∷ ts) = add_local t (runs ts)

abbrev pub put_run : ℕ × ValType → List ℕ → List ℕ
put_run r w = put_u32 r.0 (put_val_type r.1 w)

unfoldable pub put_locals : List ValType → List ℕ → List ℕ
put_locals ts w = put_list put_run (runs ts) w

unfoldable pub body_bytes : Body → List ℕ
body_bytes b = put_locals b.locals (put_all put_instr b.code [])

abbrev pub put_body : Body → List ℕ → List ℕ
put_body b w = put_sized (body_bytes b) w

-- ---- sections

-- a section, where it isn't empty
unfoldable pub put_section : {A : Type 0} → (id : ℕ) → (A → List ℕ → List ℕ) → List A → List ℕ → List ℕ
put_section id one [] w = w
put_section id one (x ∷ xs) w = id ∷ put_sized (put_list one (x ∷ xs) []) w

-- the table, or the memory, as a list
abbrev pub sizes : Option Limits → List Limits
sizes None = []
sizes (Some l) = l ∷ []

unfoldable pub put_table_type : Limits → List ℕ → List ℕ
put_table_type l w = 112 ∷ put_limits l w

unfoldable pub put_segment : Segment → List ℕ → List ℕ
put_segment s w = 0 ∷ 65 ∷ put_s32 s.offset (11 ∷ put_list put_u32 s.funcs w)

abbrev pub put_sections : Parts → List ℕ → List ℕ
put_sections m w =
    put_section 1 put_func_type m.types (put_section 3 put_u32 m.funcs (put_section 4 put_table_type (sizes m.table) (
    put_section 5 put_limits (sizes m.memory) (put_section 6 put_global m.globals (put_section 7 put_export m.exports (
    put_section 9 put_segment m.elements (put_section 10 put_body m.bodies w)))))))

abbrev pub put_header : List ℕ → List ℕ
put_header w = 0 ∷ 97 ∷ 115 ∷ 109 ∷ 1 ∷ 0 ∷ 0 ∷ 0 ∷ w

unfoldable pub module_bytes : Parts → List ℕ
module_bytes m = put_header (put_sections m [])

-- ---- what writing answers

-- 16 MiB
abbrev pub most_bytes : ℕ
most_bytes = 16777216

-- the module's shortest bytes, which spell it; or they pass 16 MiB; or want of memory
abbrev pub Writes : {X : Type 0} → Result X EncodeFault → (X → List ℕ) → Parts → Type 0
Writes (Ok v) bytes_of m = (bytes_of v ≡ module_bytes m) × (length (bytes_of v) ≤ most_bytes) × SpellsModule (bytes_of v) m
Writes (Err faults.ModuleBytes) bytes_of m = most_bytes < length (module_bytes m)
Writes (Err faults.Memory) bytes_of m = Unit {0}
