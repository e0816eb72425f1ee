-- One instruction that touches no more than the frame that runs.
use Rattle.std.specs.Prelude.{List, [], ◌∷◌, ◌++◌, Bool, true, false, Option, Some, None, slice_get, slice_set}
use Rattle.wasm_core.specs.declared.types.ConstValue.{ConstValue}
use Rattle.wasm_core.specs.declared.types.ConstValue.TheVariants.{I32, I64}
use Rattle.wasm_core.specs.declared.instrs.I32Op.{I32Op}
use Rattle.wasm_core.specs.declared.instrs.Instr.{Instr}
use Rattle.wasm_core.specs.declared.instrs.Instr.TheVariants.{Nop, Block, Loop, If, Else, Drop, LocalGet, LocalSet, LocalTee, I32Const, I64Const, I32 as Operation}
use Rattle.wasm_core.specs.Arithmetic.{is_unary, unary, binary}
use Rattle.wasm_core.specs.MachineStep.{BlockLabel, Frame, on_some, on_one, on_i32, on_two, has_value, after_end, arm}

abbrev pub with_operands : Frame → List ConstValue → List Instr → Option Frame
with_operands f operands rest = Some (record f { operands = operands; rest = rest })

abbrev pub entered : Bool → List Instr → List ConstValue → List Instr → Frame → Option Frame
entered keeps goes_on below rest f =
    Some (record f { labels = record { keeps = keeps; goes_on = goes_on; below = below } ∷ f.labels; operands = []; rest = rest })

abbrev pub left : List BlockLabel → Frame → (BlockLabel → List Instr) → Option Frame
left [] f rest = None
left (k ∷ ks) f rest = Some (record f { labels = ks; operands = f.operands ++ k.below; rest = rest k })

abbrev pub operating : Bool → I32Op → List Instr → Frame → Option Frame
operating true op rest f = on_i32 f.operands (λ x operands. with_operands f (I32 (unary op x) ∷ operands) rest)
operating false op rest f = on_two f.operands (λ x y operands. with_operands f (I32 (binary op x y) ∷ operands) rest)

abbrev pub inside : Instr → List Instr → Frame → Option Frame
inside Nop rest f = with_operands f f.operands rest
inside (Block t) rest f = entered (has_value t) (after_end 0 rest) f.operands rest f
inside (Loop t) rest f = entered false (Loop t ∷ rest) f.operands rest f
inside (If t) rest f = on_i32 f.operands (λ x operands. entered (has_value t) (after_end 0 rest) operands (arm x rest) f)
inside Else rest f = left f.labels f (λ k. k.goes_on)
inside Drop rest f = on_one f.operands (λ x operands. with_operands f operands rest)
inside (LocalGet x) rest f = on_some (slice_get f.locals x) (λ v. with_operands f (v ∷ f.operands) rest)
inside (LocalSet x) rest f =
    on_one f.operands (λ v operands. on_some (slice_get f.locals x) (λ old. Some (record f { locals = slice_set f.locals x v; operands = operands; rest = rest })))
inside (LocalTee x) rest f =
    on_one f.operands (λ v operands. on_some (slice_get f.locals x) (λ old. Some (record f { locals = slice_set f.locals x v; operands = v ∷ operands; rest = rest })))
inside (I32Const n) rest f = with_operands f (I32 n ∷ f.operands) rest
inside (I64Const n) rest f = with_operands f (I64 n ∷ f.operands) rest
inside (Operation op) rest f = operating (is_unary op) op rest f
inside _ rest f = None
