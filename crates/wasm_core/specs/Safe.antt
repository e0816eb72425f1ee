-- A run of a valid module is at a state whose code has a typing from the operands that are there.
use Rattle.std.specs.Prelude.{ℕ, List, [], ◌∷◌, ◌++◌, map, Bool, true, false}
use Rattle.wasm_core.specs.declared.types.ValType.{ValType}
use Rattle.wasm_core.specs.declared.types.ValType.TheVariants as type
use Rattle.wasm_core.specs.declared.types.ConstValue.{ConstValue}
use Rattle.wasm_core.specs.declared.types.ConstValue.TheVariants.{I32, I64}
use Rattle.wasm_core.specs.declared.instrs.Instr.{Instr}
use Rattle.wasm_core.specs.declared.instrs.Instr.TheVariants.{End, Else}
use Rattle.wasm_core.specs.Parts.{Parts}
use Rattle.wasm_core.specs.MachineStep.{BlockLabel, Frame, Conf, State, At, Over}
use Rattle.wasm_core.specs.ModuleTyping.{OperandTypes, Operands, OperandType, Of, known, Match, Typed}

-- a value as an operand of a type
pub data HasType : ConstValue → OperandType → Type 0 where
  is_i32 : {n : ℕ} → HasType (I32 n) (Of type.I32)
  is_i64 : {n : ℕ} → HasType (I64 n) (Of type.I64)

-- values as operands of these types, one by one
pub data HaveTypes : List ConstValue → Operands → Type 0 where
  no_values : HaveTypes [] []
  values : {v : ConstValue} {o : OperandType} {vs : List ConstValue} {os : Operands} → HasType v o → HaveTypes vs os → HaveTypes (v ∷ vs) (o ∷ os)

-- what a branch takes along, as types
pub data Takes : Bool → OperandTypes → Type 0 where
  takes_none : Takes false []
  takes_one : {t : ValType} → Takes true (t ∷ [])

-- `Goes ks labels ts code`: under these open blocks the code goes on well from operands of the types ts, up to the end of
-- the function; `Tail ks labels us code`: the code begins with what closes the innermost block, and goes on from there
mutual
  pub data Goes (m : Parts) (ls rs : OperandTypes) : List BlockLabel → List OperandTypes → Operands → List Instr → Type 0 where
    goes : {ks : List BlockLabel} {labels : List OperandTypes} {ts us : Operands} {body tail : List Instr} → Typed m ls rs labels ts body us → Tail m ls rs ks labels us tail → Goes m ls rs ks labels ts (body ++ tail)

  pub data Tail (m : Parts) (ls rs : OperandTypes) : List BlockLabel → List OperandTypes → Operands → List Instr → Type 0 where
    fin : {us : Operands} → Match us rs → Tail m ls rs [] (rs ∷ []) us (End ∷ [])
    by_end : {k : BlockLabel} {ks : List BlockLabel} {lt ends : OperandTypes} {us : Operands} {labels : List OperandTypes} {after : List Instr} (below : Operands) → Takes k.keeps lt → HaveTypes k.below below →
        Goes m ls rs ks labels (known lt ++ below) k.goes_on → Match us ends → Goes m ls rs ks labels (known ends ++ below) after → Tail m ls rs (k ∷ ks) (lt ∷ labels) us (End ∷ after)
    by_else : {k : BlockLabel} {ks : List BlockLabel} {lt : OperandTypes} {us : Operands} {labels : List OperandTypes} {other : List Instr} (below : Operands) → Takes k.keeps lt → HaveTypes k.below below →
        Goes m ls rs ks labels (known lt ++ below) k.goes_on → Match us lt → Tail m ls rs (k ∷ ks) (lt ∷ labels) us (Else ∷ other)

-- the function that runs, where res is what a call that it waits for will put on its operands
pub record Runs (m : Parts) (a : Frame) (ls rs res : OperandTypes) : Type 0 where
  pub labels : List OperandTypes
  pub ts : Operands
  pub keeps : Takes a.keeps rs
  pub locals : HaveTypes a.locals (known ls)
  pub operands : HaveTypes a.operands ts
  pub goes_on : Goes m ls rs a.labels labels (known res ++ ts) a.rest

abbrev pub Chain : Parts → List Frame → OperandTypes → Type 0
Chain m [] res = Unit {0}
Chain m (a ∷ callers) res = (ls : OperandTypes) × (rs : OperandTypes) × Runs m a ls rs res × Chain m callers rs

-- the globals have the module's types
abbrev pub global_types : Parts → Operands
global_types m = map (λ g. Of g.ty) m.globals

pub record Good (m : Parts) (c : Conf) : Type 0 where
  pub ls : OperandTypes
  pub rs : OperandTypes
  pub runs : Runs m c.current ls rs []
  pub chain : Chain m c.callers rs
  pub globals : HaveTypes c.store.globals (global_types m)

abbrev pub GoodState : Parts → State → Type 0
GoodState m (At c) = Good m c
GoodState m (Over e store) = HaveTypes store.globals (global_types m)
