-- Where a module without a typing first fails.
use Rattle.std.specs.Prelude.{ℕ, ◌≡◌, ◌+◌, ◌-◌, ◌^◌, ◌<◌, List, ◌++◌, length, take, min, Some, slice_get}
use Rattle.wasm_core.specs.declared.types.FuncType.{FuncType}
use Rattle.wasm_core.specs.declared.instrs.Instr.{Instr}
use Rattle.wasm_core.specs.declared.instrs.Body.{Body}
use Rattle.wasm_core.specs.Parts.{Parts}
use Rattle.wasm_core.specs.ModuleTyping.{OperandTypes, TypedBody, TypedFunc, Part, id_of, IsSound, AllSound, results_of}

-- some body that begins with these instructions has a typing
abbrev pub CanGoOn : Parts → OperandTypes → OperandTypes → List Instr → Type 0
CanGoOn m locals results front = (more : List Instr) × TypedBody m locals results (front ++ more)

-- p is the least place such that no body that begins with the instructions up to and including p has a typing
pub record IsFaultAt (m : Parts) (locals results : OperandTypes) (code : List Instr) (p : ℕ) : Type 0 where
  pub within : p < length code
  pub before : CanGoOn m locals results (take p code)
  pub here : CanGoOn m locals results (take (p + 1) code) → ⊥

-- a count stands still at the last value of its 32 bits
abbrev pub counted : ℕ → ℕ
counted n = min n (2 ^ 32 - 1)

-- the functions before this one have a typing
abbrev pub TypedBelow : Parts → ℕ → Type 0
TypedBelow m n = (f index : ℕ) (b : Body) → f < n → slice_get m.funcs f ≡ Some index → slice_get m.bodies f ≡ Some b → TypedFunc m index b

-- `FirstFault m func place`: outside the bodies, func is 4,294,967,295 and place the least section id with a fault;
-- else func is the first function without a typing, and place where its body fails
pub data FirstFault (m : Parts) : ℕ → ℕ → Type 0 where
  outside : (p : Part) → (IsSound p m → ⊥) → ((q : Part) → id_of q < id_of p → IsSound q m) → FirstFault m (2 ^ 32 - 1) (id_of p)
  inside : (f p index : ℕ) (type : FuncType) (b : Body) → AllSound m → TypedBelow m f → slice_get m.funcs f ≡ Some index → slice_get m.types index ≡ Some type → slice_get m.bodies f ≡ Some b → IsFaultAt m (type.params ++ b.locals) (results_of type) b.code p → FirstFault m (counted f) (counted p)
