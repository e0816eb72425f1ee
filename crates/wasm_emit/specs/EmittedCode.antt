-- The instructions that the code of blocks is made of: words and their places in memory, tests, the call of a closure's function, and room for a block.
use Rattle.std.specs.Prelude.{ℕ, suc, ◌+◌, List, ◌∷◌, length}
use Rattle.closure_lift.specs.Lifted.{Program}
use Rattle.wasm_core.specs.declared.types.ValType.TheVariants as type
use Rattle.wasm_core.specs.declared.instrs.BlockType.TheVariants.{Empty, Value}
use Rattle.wasm_core.specs.declared.instrs.Access.{Access}
use Rattle.wasm_core.specs.declared.instrs.I32Op.TheVariants as op32
use Rattle.wasm_core.specs.declared.instrs.Instr.{Instr}
use Rattle.wasm_core.specs.declared.instrs.Instr.TheVariants.{If, End, Call, CallIndirect, GlobalGet, I32Load, I32Store, I32Const, MemorySize, I32 as Operation}

-- words in memory stand at multiples of 4
abbrev pub at_offset : ℕ → Access
at_offset o = record { align = 2; offset = o }

abbrev pub Load : ℕ → Instr
Load o = I32Load (at_offset o)

abbrev pub StoreWord : ℕ → Instr
StoreWord o = I32Store (at_offset o)

abbrev pub ConstWord : ℕ → Instr
ConstWord n = I32Const n

-- a test whose arms leave a word, and one whose arm leaves nothing
abbrev pub IfWord : Instr
IfWord = If (Value type.I32)

abbrev pub IfOnly : Instr
IfOnly = If Empty

-- a call of a closure's function, by its entry of table 0; all have the type with number 2
abbrev pub CallClosure : Instr
CallClosure = CallIndirect 2 0

-- where the end of the heap, which is global 2, is past memory, function 0 makes memory grow by a page
abbrev pub ensure_room : List Instr → List Instr
ensure_room rest = GlobalGet 2 ∷ MemorySize ∷ ConstWord 16 ∷ Operation op32.Shl ∷ Operation op32.GtU ∷ IfOnly ∷ Call 0 ∷ End ∷ rest

-- functions 0 and 1 are of the run time; then come the program's functions, and its constants, and main
abbrev pub constant_index : Program → ℕ → ℕ
constant_index P x = suc (suc (length P.functions + x))
