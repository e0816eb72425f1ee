-- Validity (WebAssembly Core Specification, chapter 3): a declarative typing of instruction lists, of bodies and of modules.
use Rattle.std.specs.Prelude.{ℕ, ◌≡◌, ◌<◌, ◌≤◌, ◌≢◌, List, [], ◌∷◌, ◌++◌, length, map, reverse, Bool, true, false, ◌&&◌, Option, Some, None, IfSome, IsSome, is_some, nat_eq, nat_le, slice_get}
use Rattle.std.specs.Option.{option_to_list, option_map, option_and_then}
use Rattle.wasm_core.specs.declared.types.ValType.{ValType}
use Rattle.wasm_core.specs.declared.types.ValType.TheVariants.{I32, I64}
use Rattle.wasm_core.specs.declared.types.FuncType.{FuncType}
use Rattle.wasm_core.specs.declared.types.Limits.{Limits}
use Rattle.wasm_core.specs.declared.types.ConstValue.{ConstValue}
use Rattle.wasm_core.specs.declared.types.ConstValue.TheVariants as value
use Rattle.wasm_core.specs.declared.types.GlobalDef.{GlobalDef}
use Rattle.wasm_core.specs.declared.elements.Segment.{Segment}
use Rattle.wasm_core.specs.declared.instrs.BlockType.{BlockType}
use Rattle.wasm_core.specs.declared.instrs.BlockType.TheVariants.{Empty, Value}
use Rattle.wasm_core.specs.declared.instrs.Access.{Access}
use Rattle.wasm_core.specs.declared.instrs.Instr.{Instr}
use Rattle.wasm_core.specs.declared.instrs.Instr.TheVariants.{Unreachable, Nop, Block, Loop, If, Else, End, Br, BrIf, BrTable, Return, Call, CallIndirect, ReturnCall, ReturnCallIndirect, Drop, LocalGet, LocalSet, LocalTee, GlobalGet, GlobalSet, I32Load, I32Load8U, I32Store, I32Store8, MemorySize, MemoryGrow, I32Const, I64Const, I32 as Operation}
use Rattle.wasm_core.specs.declared.instrs.Body.{Body}
use Rattle.wasm_core.specs.declared.exports.Export.{Export}
use Rattle.wasm_core.specs.declared.exports.ExportKind.{ExportKind}
use Rattle.wasm_core.specs.declared.exports.ExportKind.TheVariants.{Func, Table, Memory, Global}
use Rattle.wasm_core.specs.Arithmetic.{is_unary}
use Rattle.wasm_core.specs.Parts.{Parts}

-- types of values, that of the topmost first
abbrev pub OperandTypes : Type 0
OperandTypes = List ValType

-- the type of an operand: that of a value; or, after an instruction past which nothing runs, one that matches every type
pub data OperandType : Type 0 where
  Of : ValType → OperandType
  Bottom : OperandType

-- types of operands, the topmost first
abbrev pub Operands : Type 0
Operands = List OperandType

abbrev pub known : OperandTypes → Operands
known ts = map Of ts

-- operands of these types stand where values of those types are asked for
pub data Match : Operands → OperandTypes → Type 0 where
  match_none : Match [] []
  match_same : {t : ValType} {os : Operands} {ts : OperandTypes} → Match os ts → Match (Of t ∷ os) (t ∷ ts)
  match_bottom : {t : ValType} {os : Operands} {ts : OperandTypes} → Match os ts → Match (Bottom ∷ os) (t ∷ ts)

-- the type of a value
abbrev pub type_of : ConstValue → ValType
type_of (value.I32 n) = I32
type_of (value.I64 n) = I64

-- what a block leaves
abbrev pub left_by : BlockType → OperandTypes
left_by Empty = []
left_by (Value t) = t ∷ []

abbrev pub results_of : FuncType → OperandTypes
results_of t = option_to_list t.result

abbrev pub when : {A : Type 0} → Bool → A → Option A
when true x = Some x
when false x = None

-- what an instruction takes off the operands and what it puts on them
abbrev pub Effect : Type 0
Effect = OperandTypes × OperandTypes

abbrev pub func_type : Parts → ℕ → Option FuncType
func_type m f = option_and_then (λ index. slice_get m.types index) (slice_get m.funcs f)

abbrev pub getting : ValType → Effect
getting t = ([], t ∷ [])

abbrev pub setting : ValType → Effect
setting t = (t ∷ [], [])

abbrev pub keeping : ValType → Effect
keeping t = (t ∷ [], t ∷ [])

abbrev pub calling : FuncType → Effect
calling t = (reverse t.params, results_of t)

abbrev pub calling_entry : FuncType → Effect
calling_entry t = (I32 ∷ reverse t.params, results_of t)

-- a call of an entry of the table, the only one, by the type with this index
abbrev pub entry_effect : Parts → ℕ → ℕ → Option Effect
entry_effect m index table = option_and_then (λ t. when (nat_eq table 0 && is_some m.table) (calling_entry t)) (slice_get m.types index)

-- an access to memory, whose alignment may be at most its natural one
abbrev pub accessing : Parts → ℕ → Access → Effect → Option Effect
accessing m most a e = when (is_some m.memory && nat_le a.align most) e

-- an operation's operands and its result
abbrev pub operating : Bool → Effect
operating true = (I32 ∷ [], I32 ∷ [])
operating false = (I32 ∷ I32 ∷ [], I32 ∷ [])

-- the effect of an instruction, where it depends on nothing but the module and the locals
abbrev pub effect : Parts → OperandTypes → Instr → Option Effect
effect m locals Nop = Some ([], [])
effect m locals (Call f) = option_map calling (func_type m f)
effect m locals (CallIndirect index table) = entry_effect m index table
effect m locals (LocalGet x) = option_map getting (slice_get locals x)
effect m locals (LocalSet x) = option_map setting (slice_get locals x)
effect m locals (LocalTee x) = option_map keeping (slice_get locals x)
effect m locals (GlobalGet x) = option_map (λ g. getting g.ty) (slice_get m.globals x)
effect m locals (GlobalSet x) = option_and_then (λ g. when g.mutable (setting g.ty)) (slice_get m.globals x)
effect m locals (I32Load a) = accessing m 2 a (I32 ∷ [], I32 ∷ [])
effect m locals (I32Load8U a) = accessing m 0 a (I32 ∷ [], I32 ∷ [])
effect m locals (I32Store a) = accessing m 2 a (I32 ∷ I32 ∷ [], [])
effect m locals (I32Store8 a) = accessing m 0 a (I32 ∷ I32 ∷ [], [])
effect m locals MemorySize = when (is_some m.memory) ([], I32 ∷ [])
effect m locals MemoryGrow = when (is_some m.memory) (I32 ∷ [], I32 ∷ [])
effect m locals (I32Const n) = Some ([], I32 ∷ [])
effect m locals (I64Const n) = Some ([], I64 ∷ [])
effect m locals (Operation op) = Some (operating (is_unary op))
effect m locals _ = None

-- what a tail call takes off the operands, and the results of its callee
abbrev pub tail_effect : Parts → Instr → Option Effect
tail_effect m (ReturnCall f) = option_map calling (func_type m f)
tail_effect m (ReturnCallIndirect index table) = entry_effect m index table
tail_effect m _ = None

-- a label's types are matched by these operands
pub record Reaches (labels : List OperandTypes) (l : ℕ) (os : Operands) : Type 0 where
  pub wanted : OperandTypes
  pub found : slice_get labels l ≡ Some wanted
  pub matched : Match os wanted

-- `Typed m locals results labels ts code us`: in a function with these locals and results, within blocks to which a branch takes
-- these types along, the innermost first, the code leads from operands of the types ts to operands of the types us
pub data Typed (m : Parts) (locals results : OperandTypes) : List OperandTypes → Operands → List Instr → Operands → Type 0 where
  done : {labels : List OperandTypes} {ts : Operands} → Typed m locals results labels ts [] ts
  plain : {labels : List OperandTypes} {us : Operands} {pops pushes : OperandTypes} (os ts : Operands) {i : Instr} {rest : List Instr} → effect m locals i ≡ Some (pops, pushes) → Match os pops →
      Typed m locals results labels (known pushes ++ ts) rest us → Typed m locals results labels (os ++ ts) (i ∷ rest) us
  drop : {labels : List OperandTypes} {t : OperandType} {ts us : Operands} {rest : List Instr} → Typed m locals results labels ts rest us → Typed m locals results labels (t ∷ ts) (Drop ∷ rest) us
  unreachable : {labels : List OperandTypes} {ts any us : Operands} {rest : List Instr} → Typed m locals results labels any rest us → Typed m locals results labels ts (Unreachable ∷ rest) us
  block : {labels : List OperandTypes} {ts ends us : Operands} {b : BlockType} {body rest : List Instr} → Typed m locals results (left_by b ∷ labels) [] body ends → Match ends (left_by b) →
      Typed m locals results labels (known (left_by b) ++ ts) rest us → Typed m locals results labels ts (Block b ∷ (body ++ End ∷ rest)) us
  loop : {labels : List OperandTypes} {ts ends us : Operands} {b : BlockType} {body rest : List Instr} → Typed m locals results ([] ∷ labels) [] body ends → Match ends (left_by b) →
      Typed m locals results labels (known (left_by b) ++ ts) rest us → Typed m locals results labels ts (Loop b ∷ (body ++ End ∷ rest)) us
  one_arm : {labels : List OperandTypes} {o : OperandType} {ts us : Operands} {body rest : List Instr} → Match (o ∷ []) (I32 ∷ []) → Typed m locals results ([] ∷ labels) [] body [] → Typed m locals results labels ts rest us →
      Typed m locals results labels (o ∷ ts) (If Empty ∷ (body ++ End ∷ rest)) us
  two_arms : {labels : List OperandTypes} {o : OperandType} {ts first_ends second_ends us : Operands} {b : BlockType} {first second rest : List Instr} → Match (o ∷ []) (I32 ∷ []) →
      Typed m locals results (left_by b ∷ labels) [] first first_ends → Match first_ends (left_by b) → Typed m locals results (left_by b ∷ labels) [] second second_ends → Match second_ends (left_by b) →
      Typed m locals results labels (known (left_by b) ++ ts) rest us → Typed m locals results labels (o ∷ ts) (If b ∷ (first ++ Else ∷ (second ++ End ∷ rest))) us
  br : {labels : List OperandTypes} {any us : Operands} (os ts : Operands) {l : ℕ} {rest : List Instr} → Reaches labels l os → Typed m locals results labels any rest us → Typed m locals results labels (os ++ ts) (Br l ∷ rest) us
  br_if : {labels : List OperandTypes} {o : OperandType} {us : Operands} (os ts : Operands) {l : ℕ} {rest : List Instr} → Match (o ∷ []) (I32 ∷ []) → (r : Reaches labels l os) → Typed m locals results labels (known r.wanted ++ ts) rest us →
      Typed m locals results labels (o ∷ (os ++ ts)) (BrIf l ∷ rest) us
  br_table : {labels : List OperandTypes} {o : OperandType} {any us : Operands} (os ts : Operands) {ls : List ℕ} {l : ℕ} {rest : List Instr} → Match (o ∷ []) (I32 ∷ []) → ((i k : ℕ) → slice_get ls i ≡ Some k → Reaches labels k os) →
      Reaches labels l os → Typed m locals results labels any rest us → Typed m locals results labels (o ∷ (os ++ ts)) (BrTable l ls ∷ rest) us
  return : {labels : List OperandTypes} {any us : Operands} (os ts : Operands) {rest : List Instr} → Match os results → Typed m locals results labels any rest us → Typed m locals results labels (os ++ ts) (Return ∷ rest) us
  tail_call : {labels : List OperandTypes} {any us : Operands} {pops : OperandTypes} (os ts : Operands) {i : Instr} {rest : List Instr} → tail_effect m i ≡ Some (pops, results) → Match os pops → Typed m locals results labels any rest us → Typed m locals results labels (os ++ ts) (i ∷ rest) us

-- a body: instructions that lead from no operands to the results, where a branch out of the body takes the results along, and its own end
pub record TypedBody (m : Parts) (locals results : OperandTypes) (code : List Instr) : Type 0 where
  pub body : List Instr
  pub ends : code ≡ body ++ End ∷ []
  pub left : Operands
  pub typed : Typed m locals results (results ∷ []) [] body left
  pub matched : Match left results

-- a function of the type with this index: its locals are its parameters and then the body's
pub record TypedFunc (m : Parts) (index : ℕ) (b : Body) : Type 0 where
  pub type : FuncType
  pub found : slice_get m.types index ≡ Some type
  pub typed : TypedBody m (type.params ++ b.locals) (results_of type) b.code

-- the parts outside the bodies, by the sections in which they stand
pub data Part : Type 0 where
  Functions Tables Memories Globals Exported Elements Codes : Part

-- the id of the section
abbrev pub id_of : Part → ℕ
id_of Functions = 3
id_of Tables = 4
id_of Memories = 5
id_of Globals = 6
id_of Exported = 7
id_of Elements = 9
id_of Codes = 10

-- the greatest size is not below the least
abbrev pub LimitsAreOrdered : Limits → Type 0
LimitsAreOrdered l = IfSome l.max (λ most. l.min ≤ most)

-- a memory's limits: at most 65,536 pages
pub record AreLimits (l : Limits) : Type 0 where
  pub least : l.min ≤ 65536
  pub greatest : IfSome l.max (λ most. (most ≤ 65536) × (l.min ≤ most))

-- what an export names is there
abbrev pub IsThere : Parts → ExportKind → ℕ → Type 0
IsThere m Func i = i < length m.funcs
IsThere m Table i = (i ≡ 0) × IsSome m.table
IsThere m Memory i = (i ≡ 0) × IsSome m.memory
IsThere m Global i = i < length m.globals

-- no two exports have the same name
abbrev pub DistinctNames : List Export → Type 0
DistinctNames es = (i j : ℕ) (e f : Export) → i < j → slice_get es i ≡ Some e → slice_get es j ≡ Some f → e.name ≢ f.name

abbrev pub EachIsThere : Parts → Type 0
EachIsThere m = (i : ℕ) (e : Export) → slice_get m.exports i ≡ Some e → IsThere m e.kind e.index

-- an element segment is for a table that is there, and its functions are there
pub record SegmentIsValid (m : Parts) (s : Segment) : Type 0 where
  pub table : IsSome m.table
  pub funcs : (i f : ℕ) → slice_get s.funcs i ≡ Some f → f < length m.funcs

-- what validity asks of a part
abbrev pub IsSound : Part → Parts → Type 0
IsSound Functions m = (f index : ℕ) → slice_get m.funcs f ≡ Some index → index < length m.types
IsSound Tables m = IfSome m.table LimitsAreOrdered
IsSound Memories m = IfSome m.memory AreLimits
IsSound Globals m = (x : ℕ) (g : GlobalDef) → slice_get m.globals x ≡ Some g → type_of g.init ≡ g.ty
IsSound Exported m = DistinctNames m.exports × EachIsThere m
IsSound Elements m = (i : ℕ) (s : Segment) → slice_get m.elements i ≡ Some s → SegmentIsValid m s
IsSound Codes m = length m.funcs ≡ length m.bodies

abbrev pub AllSound : Parts → Type 0
AllSound m = (p : Part) → IsSound p m

-- a module has a typing
pub record IsValid (m : Parts) : Type 0 where
  pub outside : AllSound m
  pub bodies : (f index : ℕ) (b : Body) → slice_get m.funcs f ≡ Some index → slice_get m.bodies f ≡ Some b → TypedFunc m index b
