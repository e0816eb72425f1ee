-- A frame's shape and its body as a frame of the definitions.
use Rattle.std.specs.Prelude.{List, [], ◌∷◌, map, drop}
use Rattle.wasm_core.specs.declared.types.ConstValue.{ConstValue}
use Rattle.wasm_core.specs.declared.types.ConstValue.TheVariants.{I32, I64}
use Rattle.wasm_core.specs.declared.instrs.Instr.{Instr}
use Rattle.wasm_core.specs.MachineStep.{BlockLabel, Frame, Store, Conf}
use Rattle.wasm_run.specs.Shape.{Shape, Open}

abbrev pub label_of : List Instr → Open → BlockLabel
label_of code k = record { keeps = k.keeps; goes_on = drop k.target code; below = k.below }

abbrev pub frame_at : List Instr → Shape → Frame
frame_at code s = record { keeps = s.keeps; locals = s.locals; labels = map (label_of code) s.labels; operands = s.vals; rest = drop s.at code }

-- with a store and with those that wait
abbrev pub conf_of : Store → List Frame → List Instr → Shape → Conf
conf_of store callers code s = record { store = store; current = frame_at code s; callers = callers }

-- the topmost operand is an i32
abbrev pub HasI32 : List ConstValue → Type 0
HasI32 [] = ⊥
HasI32 (I32 n ∷ vs) = Unit {0}
HasI32 (I64 n ∷ vs) = ⊥
