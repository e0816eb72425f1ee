-- What holds of the store after a step, where it holds of the store before it, of one with other globals or other bytes, and after a grow.
use Rattle.std.proofs.Common.{◌≡◌, ℕ, zero, suc, ◌+◌, List, [], ◌∷◌, ◌++◌, length, drop, Option, Some, None, Bool, true, false}
use Rattle.std.specs.Prelude.{slice_get, slice_set, if◌then◌else◌, nat_le, nat_eq}
use Rattle.std.specs.Option.{unwrap_or}
use Rattle.wasm_core.specs.declared.types.FuncType.{FuncType}
use Rattle.wasm_core.specs.declared.types.ConstValue.{ConstValue}
use Rattle.wasm_core.specs.declared.types.ConstValue.TheVariants.{I32}
use Rattle.wasm_core.specs.declared.instrs.I32Op.{I32Op}
use Rattle.wasm_core.specs.declared.instrs.Instr.{Instr}
use Rattle.wasm_core.specs.declared.instrs.Instr.TheVariants.{Unreachable, Nop, Block, Loop, If, Else, End, Br, BrIf, BrTable, Return, Call, CallIndirect, ReturnCall, ReturnCallIndirect, Drop, LocalGet, LocalSet, LocalTee, GlobalGet, GlobalSet, I32Load, I32Load8U, I32Store, I32Store8, MemorySize, MemoryGrow, I32Const, I64Const, I32 as Operation}
use Rattle.wasm_core.specs.declared.ended.TrapKind.TheVariants as kind
use Rattle.wasm_core.specs.Parts.{Parts}
use Rattle.wasm_core.specs.Memory.{byte, word, put_byte, put_word}
use Rattle.wasm_core.specs.Arithmetic.{is_unary, unary, binary}
use Rattle.wasm_core.specs.Instance.{Func, func_of, table_of}
use Rattle.wasm_core.specs.MachineStep.{after_end, BlockLabel, Frame, Store, Conf, State, At, act, arm, branch, jump, leave, back, leave_block, at_end, call, tail_call, on_entry, call_entry, same_func_type, frame_of, has_value, enter, on_some, on_i32, going_on, storing, within, operation, unless_zero, trap, grown, next}
use Rattle.wasm_core.specs.Runs.{store_of}
use Rattle.wasm_core.proofs.Bits.{put_byte_length, put_word_length}
use Rattle.wasm_core.proofs.Gives.{Gives, g_some, g_if, a_i32, a_one, a_taking}

-- a grow is left to the user, since what follows of one is its own matter
pub record Keeps (m : Parts) (g : Bool) (c : Conf) (K : Store → Type 0) : Type 0 where
  pub same : K c.store
  pub sets : (globals : List ConstValue) → K (record c.store { globals = globals })
  pub writes : (memory : List ℕ) → length memory ≡ length c.store.memory → K (record c.store { memory = memory })
  pub grows : (rest : List Instr) → Gives (λ s. K (store_of s)) (on_i32 c.current.operands (λ n operands. grown m g n operands rest c))

module _ (m : Parts) (g : Bool) (c : Conf) (K : Store → Type 0) (keeps : Keeps m g c K) where
  abbrev P : State → Type 0
  P s = K (store_of s)

  returned : (callers : List Frame) (top : List ConstValue) → Gives P (back c callers top)
  returned [] top = keeps.same
  returned (f ∷ callers) top = keeps.same

  leaves : (vals : List ConstValue) → Gives P (leave c vals)
  leaves vals = a_taking P c.current.keeps vals (λ top. back c c.callers top) (λ top. returned c.callers top)

  left : (ks : List BlockLabel) (rest : BlockLabel → List Instr) → Gives P (leave_block ks c rest)
  left [] rest = tt
  left (k ∷ ks) rest = keeps.same

  at_ends : (ks : List BlockLabel) (rest : List Instr) → Gives P (at_end ks rest c)
  at_ends [] rest = leaves c.current.operands
  at_ends (k ∷ ks) rest = keeps.same

  jumps : (l : ℕ) (vals : List ConstValue) (o : Option BlockLabel) → Gives P (jump c l vals o)
  jumps l vals None = g_if P (nat_eq l (length c.current.labels)) (leave c vals) None (λ e. leaves vals) tt
  jumps l vals (Some k) = a_taking P k.keeps vals (λ top. Some (At (record c { current = record c.current { labels = drop (l + 1) c.current.labels; operands = top ++ k.below; rest = k.goes_on } }))) (λ top. keeps.same)

  calls : (k : Func) (vals : List ConstValue) (rest : List Instr) → Gives P (call c k vals rest)
  calls k vals rest = g_if P (nat_le (length k.type.params) (length vals)) (Some (At (record { store = c.store; current = frame_of k vals; callers = record c.current { operands = drop (length k.type.params) vals; rest = rest } ∷ c.callers }))) None (λ e. keeps.same) tt

  tail_calls : (k : Func) (vals : List ConstValue) → Gives P (tail_call c k vals)
  tail_calls k vals = g_if P (nat_le (length k.type.params) (length vals)) (Some (At (record c { current = frame_of k vals }))) None (λ e. keeps.same) tt

  entries : (t : FuncType) (o : Option (Option ℕ)) (go : Func → Option State) → ((k : Func) → Gives P (go k)) → Gives P (on_entry m t o c go)
  entries t None go h = keeps.same
  entries t (Some None) go h = keeps.same
  entries t (Some (Some f)) go h =
      g_some P (func_of m f) (λ k. if same_func_type t k.type then go k else trap kind.IndirectType c)
      (λ k e. g_if P (same_func_type t k.type) (go k) (trap kind.IndirectType c) (λ s. h k) keeps.same)

  accesses : (end : ℕ) (go : Option State) → Gives P go → Gives P (within end c go)
  accesses end go k = g_if P (nat_le end (length c.store.memory)) go (trap kind.OutOfBounds c) (λ e. k) keeps.same

  operates : (b : Bool) (op : I32Op) (rest : List Instr) → Gives P (operation b op rest c)
  operates true op rest = a_i32 P c.current.operands (λ x operands. going_on c (I32 (unary op x) ∷ operands) rest) (λ x vals. keeps.same)
  operates false op rest =
      a_i32 P c.current.operands (λ y more. on_i32 more (λ x operands. going_on c (I32 (binary op x y) ∷ operands) rest))
      (λ y more. a_i32 P more (λ x operands. going_on c (I32 (binary op x y) ∷ operands) rest) (λ x vals. keeps.same))

  zero_or : (n : ℕ) (s t : Option State) → Gives P s → Gives P t → Gives P (unless_zero n s t)
  zero_or zero s t a b = b
  zero_or (suc n) s t a b = a

  acts : (i : Instr) (rest : List Instr) → Gives P (act m g i rest c)
  acts Unreachable rest = keeps.same
  acts Nop rest = keeps.same
  acts (Block t) rest = keeps.same
  acts (Loop t) rest = keeps.same
  acts (If t) rest = a_i32 P c.current.operands (λ x operands. enter (has_value t) (after_end 0 rest) operands (arm x rest) c) (λ x vals. keeps.same)
  acts Else rest = left c.current.labels (λ k. k.goes_on)
  acts End rest = at_ends c.current.labels rest
  acts (Br l) rest = jumps l c.current.operands (slice_get c.current.labels l)
  acts (BrIf l) rest =
      a_i32 P c.current.operands (λ x operands. unless_zero x (branch c l operands) (going_on c operands rest))
      (λ x vals. zero_or x (branch c l vals) (going_on c vals rest) (jumps l vals (slice_get c.current.labels l)) keeps.same)
  acts (BrTable l ls) rest =
      a_i32 P c.current.operands (λ x operands. branch c (unwrap_or (slice_get ls x) l) operands)
      (λ x vals. jumps (unwrap_or (slice_get ls x) l) vals (slice_get c.current.labels (unwrap_or (slice_get ls x) l)))
  acts Return rest = leaves c.current.operands
  acts (Call f) rest = g_some P (func_of m f) (λ k. call c k c.current.operands rest) (λ k e. calls k c.current.operands rest)
  acts (CallIndirect index table) rest =
      g_some P (slice_get m.types index) (λ t. on_i32 c.current.operands (λ x operands. call_entry m t (slice_get (table_of m) x) operands rest c))
      (λ t e. a_i32 P c.current.operands (λ x operands. call_entry m t (slice_get (table_of m) x) operands rest c) (λ x vals. entries t (slice_get (table_of m) x) (λ k. call c k vals rest) (λ k. calls k vals rest)))
  acts (ReturnCall f) rest = g_some P (func_of m f) (λ k. tail_call c k c.current.operands) (λ k e. tail_calls k c.current.operands)
  acts (ReturnCallIndirect index table) rest =
      g_some P (slice_get m.types index) (λ t. on_i32 c.current.operands (λ x operands. on_entry m t (slice_get (table_of m) x) c (λ k. tail_call c k operands)))
      (λ t e. a_i32 P c.current.operands (λ x operands. on_entry m t (slice_get (table_of m) x) c (λ k. tail_call c k operands)) (λ x vals. entries t (slice_get (table_of m) x) (λ k. tail_call c k vals) (λ k. tail_calls k vals)))
  acts Drop rest = a_one P c.current.operands (λ x operands. going_on c operands rest) (λ x vals. keeps.same)
  acts (LocalGet x) rest = g_some P (slice_get c.current.locals x) (λ v. going_on c (v ∷ c.current.operands) rest) (λ y e. keeps.same)
  acts (LocalSet x) rest =
      a_one P c.current.operands (λ v operands. on_some (slice_get c.current.locals x) (λ old. Some (At (record c { current = record c.current { locals = slice_set c.current.locals x v; operands = operands; rest = rest } }))))
      (λ y vals. g_some P (slice_get c.current.locals x) (λ old. Some (At (record c { current = record c.current { locals = slice_set c.current.locals x y; operands = vals; rest = rest } }))) (λ old e. keeps.same))
  acts (LocalTee x) rest =
      a_one P c.current.operands (λ v operands. on_some (slice_get c.current.locals x) (λ old. Some (At (record c { current = record c.current { locals = slice_set c.current.locals x v; operands = v ∷ operands; rest = rest } }))))
      (λ y vals. g_some P (slice_get c.current.locals x) (λ old. Some (At (record c { current = record c.current { locals = slice_set c.current.locals x y; operands = y ∷ vals; rest = rest } }))) (λ old e. keeps.same))
  acts (GlobalGet x) rest = g_some P (slice_get c.store.globals x) (λ v. going_on c (v ∷ c.current.operands) rest) (λ y e. keeps.same)
  acts (GlobalSet x) rest =
      a_one P c.current.operands (λ v operands. on_some (slice_get c.store.globals x) (λ old. storing c (record c.store { globals = slice_set c.store.globals x v }) operands rest))
      (λ y vals. g_some P (slice_get c.store.globals x) (λ old. storing c (record c.store { globals = slice_set c.store.globals x y }) vals rest) (λ old e. keeps.sets (slice_set c.store.globals x y)))
  acts (I32Load a) rest =
      a_i32 P c.current.operands (λ i operands. within (i + a.offset + 4) c (going_on c (I32 (word c.store.memory (i + a.offset)) ∷ operands) rest))
      (λ i vals. accesses (i + a.offset + 4) (going_on c (I32 (word c.store.memory (i + a.offset)) ∷ vals) rest) keeps.same)
  acts (I32Load8U a) rest =
      a_i32 P c.current.operands (λ i operands. within (i + a.offset + 1) c (going_on c (I32 (byte c.store.memory (i + a.offset)) ∷ operands) rest))
      (λ i vals. accesses (i + a.offset + 1) (going_on c (I32 (byte c.store.memory (i + a.offset)) ∷ vals) rest) keeps.same)
  acts (I32Store a) rest =
      a_i32 P c.current.operands (λ n more. on_i32 more (λ i operands. within (i + a.offset + 4) c (storing c (record c.store { memory = put_word c.store.memory (i + a.offset) n }) operands rest)))
      (λ n more. a_i32 P more (λ i operands. within (i + a.offset + 4) c (storing c (record c.store { memory = put_word c.store.memory (i + a.offset) n }) operands rest))
      (λ i vals. accesses (i + a.offset + 4) (storing c (record c.store { memory = put_word c.store.memory (i + a.offset) n }) vals rest) (keeps.writes (put_word c.store.memory (i + a.offset) n) (put_word_length c.store.memory (i + a.offset) n))))
  acts (I32Store8 a) rest =
      a_i32 P c.current.operands (λ n more. on_i32 more (λ i operands. within (i + a.offset + 1) c (storing c (record c.store { memory = put_byte c.store.memory (i + a.offset) n }) operands rest)))
      (λ n more. a_i32 P more (λ i operands. within (i + a.offset + 1) c (storing c (record c.store { memory = put_byte c.store.memory (i + a.offset) n }) operands rest))
      (λ i vals. accesses (i + a.offset + 1) (storing c (record c.store { memory = put_byte c.store.memory (i + a.offset) n }) vals rest) (keeps.writes (put_byte c.store.memory (i + a.offset) n) (put_byte_length c.store.memory (i + a.offset) n))))
  acts MemorySize rest = keeps.same
  acts MemoryGrow rest = keeps.grows rest
  acts (I32Const n) rest = keeps.same
  acts (I64Const n) rest = keeps.same
  acts (Operation op) rest = operates (is_unary op) op rest

  pub next_keeps : (code : List Instr) → Gives P (next m g code c)
  next_keeps [] = tt
  next_keeps (i ∷ rest) = acts i rest
