-- What every emitted module has: types of functions, the two functions of the run time, the globals, and the order of the functions and of the table.
use Rattle.std.specs.Prelude.{ℕ, zero, suc, ◌+◌, ◌-◌, ◌^◌, List, [], ◌∷◌, length, replicate, Some, None, true}
use Rattle.closure_lift.specs.Lifted.{Program}
use Rattle.wasm_core.specs.declared.types.ValType.TheVariants as type
use Rattle.wasm_core.specs.declared.types.FuncType.{FuncType}
use Rattle.wasm_core.specs.declared.types.GlobalDef.{GlobalDef}
use Rattle.wasm_core.specs.declared.types.ConstValue.TheVariants as value
use Rattle.wasm_core.specs.declared.instrs.I32Op.TheVariants as op32
use Rattle.wasm_core.specs.declared.instrs.Instr.{Instr}
use Rattle.wasm_core.specs.declared.instrs.Instr.TheVariants.{Unreachable, End, GlobalGet, GlobalSet, MemoryGrow, I32 as Operation}
use Rattle.wasm_core.specs.declared.instrs.Body.{Body}
use Rattle.wasm_emit.specs.EmittedCode.{ConstWord, IfOnly}

-- types of functions: that of main and of the function that makes room, a constant's, and that of the program's functions, which take their closure and an argument
abbrev pub type_main : FuncType
type_main = record { params = []; result = None }

abbrev pub type_constant : FuncType
type_constant = record { params = []; result = Some type.I32 }

abbrev pub type_function : FuncType
type_function = record { params = type.I32 ∷ type.I32 ∷ []; result = Some type.I32 }

-- global 0 is the result, global 1 the status, global 2 the end of the heap

-- memory grows by a page; where that is refused, a trap with status 1
abbrev pub room_code : List Instr
room_code = ConstWord 1 ∷ MemoryGrow ∷ ConstWord (2 ^ 32 - 1) ∷ Operation op32.Eq ∷ GlobalSet 1 ∷ GlobalGet 1 ∷ IfOnly ∷ Unreachable ∷ End ∷ End ∷ []

-- a body with so many locals, all words
abbrev pub body : ℕ → List Instr → Body
body n is = record { locals = replicate n type.I32; code = is }

abbrev pub room_function : Body
room_function = body 0 room_code

abbrev pub box_function : Body
box_function = body 0 (ConstWord 0 ∷ End ∷ [])

abbrev pub main_index : Program → ℕ
main_index P = suc (suc (length P.functions + length P.constants))

abbrev pub entries : ℕ → ℕ → List ℕ
entries i zero = []
entries i (suc n) = i ∷ entries (suc i) n

-- a global that can be set, with its first word
abbrev pub word_global : ℕ → GlobalDef
word_global n = record { mutable = true; ty = type.I32; init = value.I32 n }
