-- A step inside a frame is a step of the definitions, whatever the module, the store and those that wait.
use Rattle.std.proofs.Common.{◌≡◌, List, [], ◌∷◌, Bool, true, false, Option, Some, None}
use Rattle.std.specs.Prelude.{slice_get, slice_set}
use Rattle.wasm_core.specs.declared.types.ConstValue.{ConstValue}
use Rattle.wasm_core.specs.declared.types.ConstValue.TheVariants.{I32, I64}
use Rattle.wasm_core.specs.declared.instrs.I32Op.{I32Op}
use Rattle.wasm_core.specs.declared.instrs.Instr.{Instr}
use Rattle.wasm_core.specs.declared.instrs.Instr.TheVariants.{Nop, Block, Loop, If, Else, Drop, LocalGet, LocalSet, LocalTee, I32Const, I64Const, I32 as Operation}
use Rattle.wasm_core.specs.Arithmetic.{is_unary}
use Rattle.wasm_core.specs.Parts.{Parts}
use Rattle.wasm_core.specs.MachineStep.{BlockLabel, Frame, Store, Conf, State, At, act, operation, on_some, going_on}
use Rattle.wasm_core.proofs.Small.{no}
use Rattle.wasm_run.specs.Frames.{inside, operating, with_operands}

module _ (m : Parts) (g : Bool) (s : Store) (callers : List Frame) where
  abbrev at : Frame → Conf
  at f = record { store = s; current = f; callers = callers }

  some_at : {f h : Frame} → Some f ≡ Some h → ◌≡◌ {A = Option State} (Some (At (at f))) (Some (At (at h)))
  some_at e = cc

  get_at : (f h : Frame) (rest : List Instr) (o : Option ConstValue) → on_some o (λ v. with_operands f (v ∷ f.operands) rest) ≡ Some h → on_some o (λ v. going_on (at f) (v ∷ f.operands) rest) ≡ Some (At (at h))
  get_at f h rest None e = no e
  get_at f h rest (Some v) e = some_at e

  set_at : (f h : Frame) (o : Option ConstValue) → on_some o (λ old. Some f) ≡ Some h → on_some o (λ old. Some (At (at f))) ≡ Some (At (at h))
  set_at f h None e = no e
  set_at f h (Some v) e = some_at e

  operation_at : (b : Bool) (op : I32Op) (rest : List Instr) (keeps : Bool) (locals : List ConstValue) (labels : List BlockLabel) (operands : List ConstValue) (code : List Instr) (h : Frame) → operating b op rest (record
      { keeps = keeps; locals = locals; labels = labels; operands = operands; rest = code }) ≡ Some h → operation b op rest (at (record { keeps = keeps; locals = locals; labels = labels; operands = operands; rest = code })) ≡ Some (At (at h))
  operation_at true op rest keeps locals labels [] code h e = no e
  operation_at true op rest keeps locals labels (I32 x ∷ r) code h e = some_at e
  operation_at true op rest keeps locals labels (I64 x ∷ r) code h e = no e
  operation_at false op rest keeps locals labels [] code h e = no e
  operation_at false op rest keeps locals labels (I64 y ∷ r) code h e = no e
  operation_at false op rest keeps locals labels (I32 y ∷ []) code h e = no e
  operation_at false op rest keeps locals labels (I32 y ∷ I32 x ∷ r) code h e = some_at e
  operation_at false op rest keeps locals labels (I32 y ∷ I64 x ∷ r) code h e = no e

  acts : (i : Instr) (rest : List Instr) (keeps : Bool) (locals : List ConstValue) (labels : List BlockLabel) (operands : List ConstValue) (code : List Instr) (h : Frame) → inside i rest (record
      { keeps = keeps; locals = locals; labels = labels; operands = operands; rest = code }) ≡ Some h → act m g i rest (at (record { keeps = keeps; locals = locals; labels = labels; operands = operands; rest = code })) ≡ Some (At (at h))
  acts Nop rest keeps locals labels operands code h e = some_at e
  acts (Block t) rest keeps locals labels operands code h e = some_at e
  acts (Loop t) rest keeps locals labels operands code h e = some_at e
  acts (If t) rest keeps locals labels [] code h e = no e
  acts (If t) rest keeps locals labels (I32 n ∷ operands) code h e = some_at e
  acts (If t) rest keeps locals labels (I64 n ∷ operands) code h e = no e
  acts Else rest keeps locals [] operands code h e = no e
  acts Else rest keeps locals (k ∷ ks) operands code h e = some_at e
  acts Drop rest keeps locals labels [] code h e = no e
  acts Drop rest keeps locals labels (v ∷ operands) code h e = some_at e
  acts (LocalGet x) rest keeps locals labels operands code h e =
      get_at (record { keeps = keeps; locals = locals; labels = labels; operands = operands; rest = code }) h rest (slice_get locals x) e
  acts (LocalSet x) rest keeps locals labels [] code h e = no e
  acts (LocalSet x) rest keeps locals labels (v ∷ operands) code h e =
      set_at (record { keeps = keeps; locals = slice_set locals x v; labels = labels; operands = operands; rest = rest }) h (slice_get locals x) e
  acts (LocalTee x) rest keeps locals labels [] code h e = no e
  acts (LocalTee x) rest keeps locals labels (v ∷ operands) code h e =
      set_at (record { keeps = keeps; locals = slice_set locals x v; labels = labels; operands = v ∷ operands; rest = rest }) h (slice_get locals x) e
  acts (I32Const n) rest keeps locals labels operands code h e = some_at e
  acts (I64Const n) rest keeps locals labels operands code h e = some_at e
  acts (Operation op) rest keeps locals labels operands code h e = operation_at (is_unary op) op rest keeps locals labels operands code h e
  acts _ rest keeps locals labels operands code h e = no e

  pub inside_acts : (i : Instr) (rest : List Instr) (f h : Frame) → inside i rest f ≡ Some h → act m g i rest (at f) ≡ Some (At (at h))
  inside_acts i rest f h e = acts i rest f.keeps f.locals f.labels f.operands f.rest h e
