-- Where bodies first fail, by computing the pass.
use Rattle.std.proofs.Common.{[], ◌∷◌, refl, arith}
use Rattle.wasm_core.specs.declared.types.ValType.TheVariants as type
use Rattle.wasm_core.specs.declared.instrs.BlockType.TheVariants.{Empty, Value}
use Rattle.wasm_core.specs.declared.instrs.I32Op.TheVariants as op
use Rattle.wasm_core.specs.declared.instrs.Instr.TheVariants.{Unreachable, Nop, Block, If, End, BrTable, Drop, I32Const, I64Const, I32 as Operation}
use Rattle.wasm_core.specs.FirstFault.{IsFaultAt}
use Rattle.wasm_core.proofs.Examples.{module_of}
use Rattle.wasm_core.proofs.Passing.{run_viable, viable_run}

-- a block that is left, and then an operand too few: at the operation
after_block : IsFaultAt (module_of []) [] [] (Block Empty ∷ Nop ∷ End ∷ Operation op.Add ∷ End ∷ []) 3
after_block = record {
  within = omega arith;
  before = run_viable (module_of []) [] [] (Block Empty ∷ Nop ∷ End ∷ []) _ refl;
  here = λ v. viable_run (module_of []) [] [] (Block Empty ∷ Nop ∷ End ∷ Operation op.Add ∷ []) v refl;
}

-- an operand is left at the end: at the end
operand_left : IsFaultAt (module_of []) [] [] (I32Const 0 ∷ End ∷ []) 1
operand_left = record {
  within = omega arith;
  before = run_viable (module_of []) [] [] (I32Const 0 ∷ []) _ refl;
  here = λ v. viable_run (module_of []) [] [] (I32Const 0 ∷ End ∷ []) v refl;
}

-- an `if` that leaves a value without a second arm: at its end
no_second_arm : IsFaultAt (module_of []) [] [] (I32Const 1 ∷ If (Value type.I32) ∷ I32Const 0 ∷ End ∷ Drop ∷ End ∷ []) 3
no_second_arm = record {
  within = omega arith;
  before = run_viable (module_of []) [] [] (I32Const 1 ∷ If (Value type.I32) ∷ I32Const 0 ∷ []) _ refl;
  here = λ v. viable_run (module_of []) [] [] (I32Const 1 ∷ If (Value type.I32) ∷ I32Const 0 ∷ End ∷ []) v refl;
}

-- in code that is reached the labels of `br_table` have one type
reached_table : IsFaultAt (module_of []) [] [] (Block (Value type.I64) ∷ Block (Value type.I32) ∷ I32Const 0 ∷ I32Const 0 ∷ BrTable 1 (0 ∷ []) ∷ End ∷ Drop ∷ I64Const 0 ∷ End ∷ Drop ∷ End ∷ []) 4
reached_table = record {
  within = omega arith;
  before = run_viable (module_of []) [] [] (Block (Value type.I64) ∷ Block (Value type.I32) ∷ I32Const 0 ∷ I32Const 0 ∷ []) _ refl;
  here = λ v. viable_run (module_of []) [] [] (Block (Value type.I64) ∷ Block (Value type.I32) ∷ I32Const 0 ∷ I32Const 0 ∷ BrTable 1 (0 ∷ []) ∷ []) v refl;
}

-- in code that isn't, their counts of values must agree all the same
dead_counts : IsFaultAt (module_of []) [] [] (Block (Value type.I32) ∷ Unreachable ∷ BrTable 1 (0 ∷ []) ∷ End ∷ Drop ∷ End ∷ []) 2
dead_counts = record {
  within = omega arith;
  before = run_viable (module_of []) [] [] (Block (Value type.I32) ∷ Unreachable ∷ []) _ refl;
  here = λ v. viable_run (module_of []) [] [] (Block (Value type.I32) ∷ Unreachable ∷ BrTable 1 (0 ∷ []) ∷ []) v refl;
}
