-- Runs and typings of small modules, by computing.
use Rattle.std.proofs.Common.{◌≡◌, ℕ, zero, suc, ◌^◌, ◌-◌, List, [], ◌∷◌, ◌++◌, Option, Some, None, Bool, true, false, refl}
use Rattle.wasm_core.specs.declared.types.ValType.TheVariants as type
use Rattle.wasm_core.specs.declared.types.FuncType.{FuncType}
use Rattle.wasm_core.specs.declared.types.ConstValue.{ConstValue}
use Rattle.wasm_core.specs.declared.types.ConstValue.TheVariants.{I32}
use Rattle.wasm_core.specs.declared.instrs.BlockType.TheVariants.{Empty, Value}
use Rattle.wasm_core.specs.declared.instrs.I32Op.TheVariants as op
use Rattle.wasm_core.specs.declared.instrs.Instr.{Instr}
use Rattle.wasm_core.specs.declared.instrs.Instr.TheVariants.{Unreachable, Block, Loop, If, End, Br, BrIf, BrTable, Return, CallIndirect, Drop, LocalGet, LocalSet, LocalTee, GlobalSet, MemoryGrow, I32Const, I64Const, I32 as Operation}
use Rattle.wasm_core.specs.declared.ended.Ended.TheVariants.{Returned, Trapped}
use Rattle.wasm_core.specs.declared.ended.TrapKind.TheVariants as kind
use Rattle.std.specs.Prelude.{slice_get}
use Rattle.wasm_core.specs.Parts.{Parts}
use Rattle.wasm_core.specs.Memory.{word, put_word, zeroed}
use Rattle.wasm_core.specs.Instance.{table_of, Func}
use Rattle.wasm_core.specs.MachineStep.{Store, State, At, Over, step}
use Rattle.wasm_core.specs.Runs.{start}
use Rattle.wasm_core.specs.ModuleTyping.{Of, Bottom, match_none, match_same, match_bottom, done, plain, drop, unreachable, block, br_table, Reaches, TypedBody}

abbrev more : Option State → (State → Option State) → Option State
more None go = None
more (Some s) go = go s

abbrev one : Parts → Bool → State → Option State
one m g (At c) = step m g c
one m g (Over e store) = None

-- so many steps, where no grow is granted
abbrev steps : Parts → ℕ → State → Option State
steps m zero s = Some s
steps m (suc n) s = more (one m false s) (λ t. steps m n t)

abbrev pub nothing : FuncType
nothing = record { params = []; result = None }

abbrev pub a_word : FuncType
a_word = record { params = []; result = Some type.I32 }

abbrev main : List Instr → Func
main code = record { type = nothing; body = record { locals = type.I32 ∷ []; code = code } }

-- one table entry: the function 1, which gives 7
abbrev pub module_of : List Instr → Parts
module_of code = record {
  types = nothing ∷ a_word ∷ [];
  funcs = 0 ∷ 1 ∷ [];
  table = Some (record { min = 2; max = None });
  memory = Some (record { min = 0; max = Some 1 });
  globals = record { mutable = true; ty = type.I32; init = I32 0 } ∷ [];
  exports = [];
  elements = record { offset = 1; funcs = 1 ∷ [] } ∷ [];
  bodies = record { locals = type.I32 ∷ []; code = code } ∷ record { locals = []; code = I32Const 7 ∷ End ∷ [] } ∷ [];
}

abbrev left : ConstValue → Bool → Bool → Store
left v refused by_choice = record { pages = 0; memory = zeroed 0; globals = v ∷ []; refused = refused; by_choice = by_choice }

-- two rounds of a loop, and a call by the table: 21 steps
abbrev pub rounds : List Instr
rounds = I32Const 2 ∷ LocalSet 0 ∷ Loop Empty ∷ LocalGet 0 ∷ I32Const 1 ∷ Operation op.Sub ∷ LocalTee 0 ∷ BrIf 0 ∷ End ∷ I32Const 1 ∷ CallIndirect 1 0 ∷ GlobalSet 0 ∷ End ∷ []

loops_and_calls : steps (module_of rounds) 21 (start (module_of rounds) (main rounds)) ≡ Some (Over Returned (left (I32 7) false false))
unfolding table_of
loops_and_calls = refl

-- the first entry is empty, the third isn't there, and the second is no function of the other type
abbrev entry : ℕ → ℕ → List Instr
entry x t = I32Const x ∷ CallIndirect t 0 ∷ End ∷ []

empty_entry : steps (module_of (entry 0 1)) 2 (start (module_of (entry 0 1)) (main (entry 0 1))) ≡ Some (Over (Trapped kind.UninitializedElement) (left (I32 0) false false))
unfolding table_of
empty_entry = refl

no_entry : steps (module_of (entry 2 1)) 2 (start (module_of (entry 2 1)) (main (entry 2 1))) ≡ Some (Over (Trapped kind.UndefinedElement) (left (I32 0) false false))
unfolding table_of
no_entry = refl

other_type : steps (module_of (entry 1 0)) 2 (start (module_of (entry 1 0)) (main (entry 1 0))) ≡ Some (Over (Trapped kind.IndirectType) (left (I32 0) false false))
unfolding table_of
other_type = refl

-- an `if` without `else` whose condition is 0 takes two steps: 4 in all
abbrev no_else : List Instr
no_else = I32Const 0 ∷ If Empty ∷ Unreachable ∷ End ∷ End ∷ []

false_if : steps (module_of no_else) 4 (start (module_of no_else) (main no_else)) ≡ Some (Over Returned (left (I32 0) false false))
false_if = refl

-- a branch to the body's own label is one step, as `return` is
abbrev out : Instr → List Instr
out i = Block Empty ∷ i ∷ End ∷ Unreachable ∷ End ∷ []

branch_out : steps (module_of (out (Br 1))) 2 (start (module_of (out (Br 1))) (main (out (Br 1)))) ≡ Some (Over Returned (left (I32 0) false false))
branch_out = refl

return_out : steps (module_of (out Return)) 2 (start (module_of (out Return)) (main (out Return))) ≡ Some (Over Returned (left (I32 0) false false))
return_out = refl

-- the topmost operand alone goes along with a branch
abbrev carried : List Instr
carried = Block (Value type.I32) ∷ I32Const 4 ∷ I32Const 5 ∷ I32Const 1 ∷ BrTable 1 (1 ∷ 0 ∷ []) ∷ End ∷ GlobalSet 0 ∷ End ∷ []

table_branch : steps (module_of carried) 7 (start (module_of carried) (main carried)) ≡ Some (Over Returned (left (I32 5) false false))
table_branch = refl

-- a grow that isn't granted answers -1; it was within the maximum
abbrev growing : ℕ → List Instr
growing n = I32Const n ∷ MemoryGrow ∷ GlobalSet 0 ∷ End ∷ []

refused_grow : steps (module_of (growing 1)) 4 (start (module_of (growing 1)) (main (growing 1))) ≡ Some (Over Returned (left (I32 (2 ^ 32 - 1)) true true))
refused_grow = refl

past_maximum : steps (module_of (growing 2)) 4 (start (module_of (growing 2)) (main (growing 2))) ≡ Some (Over Returned (left (I32 (2 ^ 32 - 1)) true false))
past_maximum = refl

-- -1 is below 1 as a signed number, and not as an unsigned one; -8 shifted right by 33 bits is -4
below : List Instr → ℕ → Type 0
below code n = steps (module_of code) 5 (start (module_of code) (main code)) ≡ Some (Over Returned (left (I32 n) false false))

abbrev two : ℕ → ℕ → Instr → List Instr
two x y i = I32Const x ∷ I32Const y ∷ i ∷ GlobalSet 0 ∷ End ∷ []

signed_below : below (two (2 ^ 32 - 1) 1 (Operation op.LtS)) 1
unfolding below
signed_below = refl

unsigned_below : below (two (2 ^ 32 - 1) 1 (Operation op.LtU)) 0
unfolding below
unsigned_below = refl

signed_shift : below (two (2 ^ 32 - 8) 33 (Operation op.ShrS)) (2 ^ 32 - 4)
unfolding below
signed_shift = refl

wrapping : below (two 3 5 (Operation op.Sub)) (2 ^ 32 - 2)
unfolding below
wrapping = refl

-- words lie with their lowest byte first
bytes_of_word : put_word (0 ∷ 0 ∷ 0 ∷ 0 ∷ 0 ∷ []) 1 305419896 ≡ 0 ∷ 120 ∷ 86 ∷ 52 ∷ 18 ∷ []
unfolding put_word
bytes_of_word = refl

word_of_bytes : word (0 ∷ 120 ∷ 86 ∷ 52 ∷ 18 ∷ []) 1 ≡ 305419896
unfolding word
word_of_bytes = refl

-- in unreachable code the labels of `br_table` may have different types
abbrev dead : List Instr
dead = Block (Value type.I64) ∷ (Block (Value type.I32) ∷ (Unreachable ∷ BrTable 1 (0 ∷ []) ∷ []) ++ End ∷ Drop ∷ I64Const 0 ∷ []) ++ End ∷ Drop ∷ []

dead_table : TypedBody (module_of []) [] [] (dead ++ End ∷ [])
dead_table = record {
  body = dead;
  ends = refl;
  left = [];
  typed = block {ends = Of type.I64 ∷ []} {body = Block (Value type.I32) ∷ (Unreachable ∷ BrTable 1 (0 ∷ []) ∷ []) ++ End ∷ Drop ∷ I64Const 0 ∷ []} {rest = Drop ∷ []}
      (block {ends = Of type.I32 ∷ []} {body = Unreachable ∷ BrTable 1 (0 ∷ []) ∷ []} {rest = Drop ∷ I64Const 0 ∷ []}
      (unreachable {any = Of type.I32 ∷ Bottom ∷ []} (br_table {any = Of type.I32 ∷ []} (Bottom ∷ []) [] (match_same match_none) first (record { wanted = type.I64 ∷ []; found = refl; matched = match_bottom match_none }) done))
      (match_same match_none)
      (drop (plain [] [] refl match_none done)))
      (match_same match_none)
      (drop done);
  matched = match_none;
}
  where
    first : (i k : ℕ) → slice_get (0 ∷ []) i ≡ Some k → Reaches ((type.I32 ∷ []) ∷ (type.I64 ∷ []) ∷ [] ∷ []) k (Bottom ∷ [])
    first zero zero e = record { wanted = type.I32 ∷ []; found = refl; matched = match_bottom match_none }
    first zero (suc k) e = cc
    first (suc i) k e = cc
