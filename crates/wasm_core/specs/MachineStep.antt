-- Execution (WebAssembly Core Specification, chapter 4): reduction of instruction lists with bracketed labels and frames.
-- One step is one executed instruction, or the leaving of one block, loop, arm or function at its end.
use Rattle.std.specs.Prelude.{ℕ, zero, suc, ◌≡◌, ◌+◌, ◌^◌, ◌-◌, List, [], ◌∷◌, ◌++◌, length, take, drop, reverse, map, Bool, true, false, ◌&&◌, Option, Some, None, is_some, if◌then◌else◌, nat_eq, nat_le, slice_get, slice_set}
use Rattle.std.specs.Option.{unwrap_or}
use Rattle.wasm_core.specs.declared.types.ValType.{ValType}
use Rattle.wasm_core.specs.declared.types.ValType.TheVariants as type
use Rattle.wasm_core.specs.declared.types.FuncType.{FuncType}
use Rattle.wasm_core.specs.declared.types.ConstValue.{ConstValue}
use Rattle.wasm_core.specs.declared.types.ConstValue.TheVariants.{I32, I64}
use Rattle.wasm_core.specs.declared.instrs.BlockType.{BlockType}
use Rattle.wasm_core.specs.declared.instrs.BlockType.TheVariants.{Empty, Value}
use Rattle.wasm_core.specs.declared.instrs.I32Op.{I32Op}
use Rattle.wasm_core.specs.declared.instrs.Instr.{Instr}
use Rattle.wasm_core.specs.declared.instrs.Instr.TheVariants.{Unreachable, Nop, Block, Loop, If, Else, End, Br, BrIf, BrTable, Return, Call, CallIndirect, ReturnCall, ReturnCallIndirect, Drop, LocalGet, LocalSet, LocalTee, GlobalGet, GlobalSet, I32Load, I32Load8U, I32Store, I32Store8, MemorySize, MemoryGrow, I32Const, I64Const, I32 as Operation}
use Rattle.wasm_core.specs.declared.ended.Ended.{Ended}
use Rattle.wasm_core.specs.declared.ended.Ended.TheVariants.{Returned, Trapped}
use Rattle.wasm_core.specs.declared.ended.TrapKind.{TrapKind}
use Rattle.wasm_core.specs.declared.ended.TrapKind.TheVariants as kind
use Rattle.wasm_core.specs.Parts.{Parts}
use Rattle.wasm_core.specs.Memory.{byte, word, put_byte, put_word, zeroed}
use Rattle.wasm_core.specs.Arithmetic.{is_unary, unary, binary}
use Rattle.wasm_core.specs.Instance.{Func, func_of, greatest_pages, table_of, zero_of}

-- how an instruction stands to the blocks around it
pub data Bracket : Type 0 where
  Opens Divides Closes Plain : Bracket

abbrev pub bracket : Instr → Bracket
bracket (Block t) = Opens
bracket (Loop t) = Opens
bracket (If t) = Opens
bracket Else = Divides
bracket End = Closes
bracket _ = Plain

abbrev pub past_end : Bracket → ℕ → (ℕ → List Instr) → List Instr → List Instr
past_end Opens d go rest = go (suc d)
past_end Closes zero go rest = rest
past_end Closes (suc d) go rest = go d
past_end Divides d go rest = go d
past_end Plain d go rest = go d

-- what comes after the end of the block inside of which this is, where d further blocks are open
abbrev pub after_end : ℕ → List Instr → List Instr
after_end d [] = []
after_end d (i ∷ rest) = past_end (bracket i) d (λ e. after_end e rest) rest

abbrev pub to_else : Bracket → ℕ → (ℕ → List Instr) → Instr → List Instr → List Instr
to_else Opens d go i rest = go (suc d)
to_else Closes zero go i rest = i ∷ rest
to_else Closes (suc d) go i rest = go d
to_else Divides zero go i rest = rest
to_else Divides (suc d) go i rest = go (suc d)
to_else Plain d go i rest = go d

-- the second arm of the `if` in whose first arm this is, or its end where it has none
abbrev pub else_arm : ℕ → List Instr → List Instr
else_arm d [] = []
else_arm d (i ∷ rest) = to_else (bracket i) d (λ e. else_arm e rest) i rest

-- an open block: whether a branch to it takes a value along, the instructions with which the branch goes on,
-- and the operands below the block, the topmost first
pub record BlockLabel : Type 0 where
  pub keeps : Bool
  pub goes_on : List Instr
  pub below : List ConstValue

-- a function that runs: whether it has a result, its locals, its open blocks, the innermost first,
-- the operands in the innermost, the topmost first, and the instructions to come
pub record Frame : Type 0 where
  pub keeps : Bool
  pub locals : List ConstValue
  pub labels : List BlockLabel
  pub operands : List ConstValue
  pub rest : List Instr

-- what all frames share: the pages of memory, its bytes, the globals, whether a grow of memory was refused so far,
-- and whether the last such one would have stayed within the module's maximum
pub record Store : Type 0 where
  pub pages : ℕ
  pub memory : List ℕ
  pub globals : List ConstValue
  pub refused : Bool
  pub by_choice : Bool

-- the function that runs, and those that wait for it, the last caller first
pub record Conf : Type 0 where
  pub store : Store
  pub current : Frame
  pub callers : List Frame

-- a run that goes on, or one that has ended
pub data State : Type 0 where
  At : Conf → State
  Over : Ended → Store → State

abbrev pub on_some : {A B : Type 0} → Option A → (A → Option B) → Option B
on_some None go = None
on_some (Some x) go = go x

abbrev pub on_one : {A : Type 0} → List ConstValue → (ConstValue → List ConstValue → Option A) → Option A
on_one [] go = None
on_one (x ∷ operands) go = go x operands

-- the topmost operand, an i32
abbrev pub on_i32 : {A : Type 0} → List ConstValue → (ℕ → List ConstValue → Option A) → Option A
on_i32 [] go = None
on_i32 (I32 n ∷ operands) go = go n operands
on_i32 (I64 n ∷ operands) go = None

-- two i32s, the second one topmost
abbrev pub on_two : {A : Type 0} → List ConstValue → (ℕ → ℕ → List ConstValue → Option A) → Option A
on_two operands go = on_i32 operands (λ y more. on_i32 more (λ x below. go x y below))

-- what a branch or a return takes along: the topmost operand, or nothing
abbrev pub taking : {A : Type 0} → Bool → List ConstValue → (List ConstValue → Option A) → Option A
taking false operands go = go []
taking true [] go = None
taking true (x ∷ operands) go = go (x ∷ [])

abbrev pub has_value : BlockType → Bool
has_value Empty = false
has_value (Value t) = true

-- the running function goes on with these operands and instructions
abbrev pub going_on : Conf → List ConstValue → List Instr → Option State
going_on c operands rest = Some (At (record c { current = record c.current { operands = operands; rest = rest } }))

-- so it does with another store
abbrev pub storing : Conf → Store → List ConstValue → List Instr → Option State
storing c store operands rest =
    Some (At (record { store = store; current = record c.current { operands = operands; rest = rest }; callers = c.callers }))

abbrev pub trap : TrapKind → Conf → Option State
trap k c = Some (Over (Trapped k) c.store)

-- a block is entered over these operands
abbrev pub enter : Bool → List Instr → List ConstValue → List Instr → Conf → Option State
enter keeps goes_on below rest c = Some (At (record c {
  current = record c.current {
    labels = record { keeps = keeps; goes_on = goes_on; below = below } ∷ c.current.labels;
    operands = [];
    rest = rest;
  };
}))

-- the arm that an `if` takes
abbrev pub arm : ℕ → List Instr → List Instr
arm zero rest = else_arm 0 rest
arm (suc n) rest = rest

-- the innermost block is left at its end, and its operands stay
abbrev pub leave_block : List BlockLabel → Conf → (BlockLabel → List Instr) → Option State
leave_block [] c rest = None
leave_block (k ∷ ks) c rest =
    Some (At (record c { current = record c.current { labels = ks; operands = c.current.operands ++ k.below; rest = rest k } }))

-- the running function returns to the one that waits
abbrev pub back : Conf → List Frame → List ConstValue → Option State
back c [] top = Some (Over Returned c.store)
back c (f ∷ callers) top = Some (At (record c { current = record f { operands = top ++ f.operands }; callers = callers }))

abbrev pub leave : Conf → List ConstValue → Option State
leave c operands = taking c.current.keeps operands (λ top. back c c.callers top)

-- an end: of the function, or of the innermost block
abbrev pub at_end : List BlockLabel → List Instr → Conf → Option State
at_end [] rest c = leave c c.current.operands
at_end (k ∷ ks) rest c = leave_block (k ∷ ks) c (λ l. rest)

-- a branch to an open block, or out of the function, whose body is the outermost one
abbrev pub jump : Conf → ℕ → List ConstValue → Option BlockLabel → Option State
jump c l operands None = if nat_eq l (length c.current.labels) then leave c operands else None
jump c l operands (Some k) =
    taking k.keeps operands (λ top. Some (At (record c { current = record c.current { labels = drop (l + 1) c.current.labels; operands = top ++ k.below; rest = k.goes_on } })))

abbrev pub branch : Conf → ℕ → List ConstValue → Option State
branch c l operands = jump c l operands (slice_get c.current.labels l)

abbrev pub unless_zero : ℕ → Option State → Option State → Option State
unless_zero zero taken on = on
unless_zero (suc n) taken on = taken

-- the locals of a function that is called: its arguments, of which the last one is topmost, and zeros
abbrev pub locals_of : Func → List ConstValue → List ConstValue
locals_of g operands = reverse (take (length g.type.params) operands) ++ map zero_of g.body.locals

abbrev pub frame_of : Func → List ConstValue → Frame
frame_of g operands =
    record { keeps = is_some g.type.result; locals = locals_of g operands; labels = []; operands = []; rest = g.body.code }

-- a function is called
abbrev pub call : Conf → Func → List ConstValue → List Instr → Option State
call c g operands rest =
    if nat_le (length g.type.params) (length operands)
    then Some (At (record {
      store = c.store;
      current = frame_of g operands;
      callers = record c.current { operands = drop (length g.type.params) operands; rest = rest } ∷ c.callers;
    }))
    else None

-- a function is called in place of the one that runs, whose labels and frame go
abbrev pub tail_call : Conf → Func → List ConstValue → Option State
tail_call c g operands = if nat_le (length g.type.params) (length operands) then Some (At (record c { current = frame_of g operands })) else None

abbrev pub same_type : ValType → ValType → Bool
same_type type.I32 type.I32 = true
same_type type.I32 type.I64 = false
same_type type.I64 type.I32 = false
same_type type.I64 type.I64 = true

abbrev pub same_types : List ValType → List ValType → Bool
same_types [] [] = true
same_types [] (t ∷ ts) = false
same_types (s ∷ ss) [] = false
same_types (s ∷ ss) (t ∷ ts) = same_type s t && same_types ss ts

abbrev pub same_result : Option ValType → Option ValType → Bool
same_result None None = true
same_result None (Some t) = false
same_result (Some s) None = false
same_result (Some s) (Some t) = same_type s t

-- two function types are one
abbrev pub same_func_type : FuncType → FuncType → Bool
same_func_type s t = same_types s.params t.params && same_result s.result t.result

-- what is done with an entry of the table, where it is a function of this type
abbrev pub on_entry : Parts → FuncType → Option (Option ℕ) → Conf → (Func → Option State) → Option State
on_entry m t None c go = trap kind.UndefinedElement c
on_entry m t (Some None) c go = trap kind.UninitializedElement c
on_entry m t (Some (Some f)) c go = on_some (func_of m f) (λ g. if same_func_type t g.type then go g else trap kind.IndirectType c)

-- an entry of the table is called
abbrev pub call_entry : Parts → FuncType → Option (Option ℕ) → List ConstValue → List Instr → Conf → Option State
call_entry m t entry operands rest c = on_entry m t entry c (λ g. call c g operands rest)

-- an access to so many bytes of memory
abbrev pub within : ℕ → Conf → Option State → Option State
within end c go = if nat_le end (length c.store.memory) then go else trap kind.OutOfBounds c

-- memory grows by n pages, where that is granted and within the module's maximum
abbrev pub grown : Parts → Bool → ℕ → List ConstValue → List Instr → Conf → Option State
grown m granted n operands rest c =
    if granted && nat_le (c.store.pages + n) (greatest_pages m.memory)
    then storing c (record c.store { pages = c.store.pages + n; memory = c.store.memory ++ zeroed n }) (I32 c.store.pages ∷ operands) rest
    else storing c (record c.store { refused = true; by_choice = nat_le (c.store.pages + n) (greatest_pages m.memory) }) (I32 (2 ^ 32 - 1) ∷ operands) rest

-- an operation on i32s, with one operand or two
abbrev pub operation : Bool → I32Op → List Instr → Conf → Option State
operation true op rest c = on_i32 c.current.operands (λ x operands. going_on c (I32 (unary op x) ∷ operands) rest)
operation false op rest c = on_two c.current.operands (λ x y operands. going_on c (I32 (binary op x y) ∷ operands) rest)

-- one instruction, where a grow of memory is granted or refused
abbrev pub act : Parts → Bool → Instr → List Instr → Conf → Option State
act m granted Unreachable rest c = trap kind.Unreachable c
act m granted Nop rest c = going_on c c.current.operands rest
act m granted (Block t) rest c = enter (has_value t) (after_end 0 rest) c.current.operands rest c
act m granted (Loop t) rest c = enter false (Loop t ∷ rest) c.current.operands rest c
act m granted (If t) rest c = on_i32 c.current.operands (λ x operands. enter (has_value t) (after_end 0 rest) operands (arm x rest) c)
act m granted Else rest c = leave_block c.current.labels c (λ k. k.goes_on)
act m granted End rest c = at_end c.current.labels rest c
act m granted (Br l) rest c = branch c l c.current.operands
act m granted (BrIf l) rest c = on_i32 c.current.operands (λ x operands. unless_zero x (branch c l operands) (going_on c operands rest))
act m granted (BrTable l ls) rest c = on_i32 c.current.operands (λ x operands. branch c (unwrap_or (slice_get ls x) l) operands)
act m granted Return rest c = leave c c.current.operands
act m granted (Call f) rest c = on_some (func_of m f) (λ g. call c g c.current.operands rest)
act m granted (CallIndirect index table) rest c =
    on_some (slice_get m.types index) (λ t. on_i32 c.current.operands (λ x operands. call_entry m t (slice_get (table_of m) x) operands rest c))
act m granted (ReturnCall f) rest c = on_some (func_of m f) (λ g. tail_call c g c.current.operands)
act m granted (ReturnCallIndirect index table) rest c =
    on_some (slice_get m.types index) (λ t. on_i32 c.current.operands (λ x operands. on_entry m t (slice_get (table_of m) x) c (λ g. tail_call c g operands)))
act m granted Drop rest c = on_one c.current.operands (λ x operands. going_on c operands rest)
act m granted (LocalGet x) rest c = on_some (slice_get c.current.locals x) (λ v. going_on c (v ∷ c.current.operands) rest)
act m granted (LocalSet x) rest c =
    on_one c.current.operands (λ v operands. on_some (slice_get c.current.locals x) (λ old.
    Some (At (record c { current = record c.current { locals = slice_set c.current.locals x v; operands = operands; rest = rest } }))))
act m granted (LocalTee x) rest c =
    on_one c.current.operands (λ v operands. on_some (slice_get c.current.locals x) (λ old.
    Some (At (record c { current = record c.current { locals = slice_set c.current.locals x v; operands = v ∷ operands; rest = rest } }))))
act m granted (GlobalGet x) rest c = on_some (slice_get c.store.globals x) (λ v. going_on c (v ∷ c.current.operands) rest)
act m granted (GlobalSet x) rest c =
    on_one c.current.operands (λ v operands. on_some (slice_get c.store.globals x) (λ old.
    storing c (record c.store { globals = slice_set c.store.globals x v }) operands rest))
act m granted (I32Load a) rest c =
    on_i32 c.current.operands (λ i operands. within (i + a.offset + 4) c (going_on c (I32 (word c.store.memory (i + a.offset)) ∷ operands) rest))
act m granted (I32Load8U a) rest c =
    on_i32 c.current.operands (λ i operands. within (i + a.offset + 1) c (going_on c (I32 (byte c.store.memory (i + a.offset)) ∷ operands) rest))
act m granted (I32Store a) rest c =
    on_two c.current.operands (λ i n operands. within (i + a.offset + 4) c (storing c (record c.store { memory = put_word c.store.memory (i + a.offset) n }) operands rest))
act m granted (I32Store8 a) rest c =
    on_two c.current.operands (λ i n operands. within (i + a.offset + 1) c (storing c (record c.store { memory = put_byte c.store.memory (i + a.offset) n }) operands rest))
act m granted MemorySize rest c = going_on c (I32 c.store.pages ∷ c.current.operands) rest
act m granted MemoryGrow rest c = on_i32 c.current.operands (λ n operands. grown m granted n operands rest c)
act m granted (I32Const n) rest c = going_on c (I32 n ∷ c.current.operands) rest
act m granted (I64Const n) rest c = going_on c (I64 n ∷ c.current.operands) rest
act m granted (Operation op) rest c = operation (is_unary op) op rest c

abbrev pub next : Parts → Bool → List Instr → Conf → Option State
next m granted [] c = None
next m granted (i ∷ rest) c = act m granted i rest c

-- one step, where there is one
abbrev pub step : Parts → Bool → Conf → Option State
step m granted c = next m granted c.current.rest c

-- a step of a run, where a grow is granted or refused
abbrev pub StepsTo : Parts → Bool → State → State → Type 0
StepsTo m granted (At c) t = step m granted c ≡ Some t
StepsTo m granted (Over e store) t = ⊥

-- k steps of a run, the last one last; at each a grow may be granted or refused
abbrev pub Reach : Parts → ℕ → State → State → Type 0
Reach m zero s t = s ≡ t
Reach m (suc k) s t = (mid : State) × Reach m k s mid × ((granted : Bool) × StepsTo m granted mid t)
