-- The rules of the machine at the stores of an emitted module: three globals, of which the first two are 0 until main returns, and no refused grow.
use Rattle.std.proofs.Common.{◌≡◌, ℕ, suc, ◌+◌, ◌-◌, ◌*◌, ◌%◌, ◌^◌, ◌<◌, ◌≤◌, List, [], ◌∷◌, ◌++◌, length, map, replicate, Some, Bool, true, false, refl, ◌∙◌, arith}
use Rattle.std.proofs.lemmas.List.{length-map, length-replicate}
use Rattle.std.specs.Prelude.{slice_get, slice_set}
use Rattle.wasm_core.specs.declared.types.ValType.{ValType}
use Rattle.wasm_core.specs.declared.types.ValType.TheVariants as type
use Rattle.wasm_core.specs.declared.types.FuncType.{FuncType}
use Rattle.wasm_core.specs.declared.types.ConstValue.{ConstValue}
use Rattle.wasm_core.specs.declared.types.ConstValue.TheVariants.{I32}
use Rattle.wasm_core.specs.declared.instrs.BlockType.{BlockType}
use Rattle.wasm_core.specs.declared.instrs.I32Op.TheVariants as op32
use Rattle.wasm_core.specs.declared.instrs.Instr.{Instr}
use Rattle.wasm_core.specs.declared.instrs.Instr.TheVariants.{If, Else, End, Call, CallIndirect, LocalGet, LocalSet, LocalTee, GlobalGet, GlobalSet, MemorySize, MemoryGrow, I32 as Operation}
use Rattle.wasm_core.specs.Parts.{Parts}
use Rattle.wasm_core.specs.Memory.{word, put_word, zeroed}
use Rattle.wasm_core.specs.Instance.{Func, func_of, table_of, greatest_pages, zero_of}
use Rattle.wasm_core.specs.MachineStep.{BlockLabel, Frame, Store, Conf, State, At, step, after_end, else_arm, has_value}
use Rattle.wasm_core.specs.RunTree.{Within as Tree}
use Rattle.wasm_core.proofs.Rules.{Around}
use Rattle.wasm_core.proofs.Rules as rule
use Rattle.wasm_emit.specs.EmittedCode.{Load, StoreWord as Put, ConstWord}
use Rattle.wasm_emit.specs.EmittedModule.{body, type_main, type_constant, type_function}
use Rattle.wasm_emit.specs.EmitLaws.{Spent}
use Rattle.wasm_emit.proofs.Bytes.{Mem}

-- what bounds a whole run: its waiting frames, and the bytes of its blocks; the pages that it begins with; and the further globals, which stay
pub record Limits : Type 0 where
  pub frames : ℕ
  pub bytes : ℕ
  pub first : ℕ
  pub more : List ConstValue

abbrev pub Within : Parts → Limits → (State → Type 0) → ℕ → ℕ → State → Type 0
Within M cap Q l u s = Tree M cap.frames Q (Spent M cap.bytes) l u s

-- the store while main runs: memory, its pages, and the end of the heap
abbrev pub store : Limits → Mem → ℕ → ℕ → Store
store cap m p h = record { pages = p; memory = m; globals = I32 0 ∷ I32 0 ∷ I32 h ∷ cap.more; refused = false; by_choice = false }

-- after a refused grow
abbrev pub refusing : Limits → Bool → Mem → ℕ → ℕ → Store
refusing cap b m p h = record { pages = p; memory = m; globals = I32 0 ∷ I32 0 ∷ I32 h ∷ cap.more; refused = true; by_choice = b }

abbrev pub here : Limits → Around → Mem → ℕ → ℕ → List ConstValue → List ConstValue → List Instr → State
here cap f m p h ls vals rest = rule.here f (store cap m p h) ls vals rest

abbrev pub in_block : BlockLabel → Around → Around
in_block k f = record f { labels = k ∷ f.labels }

-- around a function that this one calls
abbrev pub callee : Around → List ConstValue → List ConstValue → List Instr → Around
callee f ls vals rest = record { keeps = true; labels = []; callers = record { keeps = f.keeps; locals = ls; labels = f.labels; operands = vals; rest = rest } ∷ f.callers }

-- which gives nothing
abbrev pub quiet : Around → Around
quiet f = record f { keeps = false }

-- a function returns a word
abbrev pub returned : Limits → List Frame → Mem → ℕ → ℕ → ℕ → State
returned cap callers m p h w = rule.returned callers (store cap m p h) (I32 w)

-- locals that are zeros
abbrev pub zeros : ℕ → List ConstValue
zeros n = map zero_of (replicate n type.I32)

pub zeros_length : (n : ℕ) → length (zeros n) ≡ n
zeros_length n = length-map (replicate n type.I32) zero_of ∙ length-replicate {A = ValType} n type.I32

-- a function of n locals besides its parameters
abbrev pub func : FuncType → ℕ → List Instr → Func
func t n code = record { type = t; body = body n code }

module _ (M : Parts) (cap : Limits) (Q : State → Type 0) where
  abbrev E : State → Type 0
  E = Spent M cap.bytes

  pub looser : {l u l' u' : ℕ} {s : State} → Within M cap Q l u s → l' ≤ l → u ≤ u' → Within M cap Q l' u' s
  looser k a b = rule.looser M cap.frames Q E k a b

  -- on the way to a trap, the least number of steps doesn't matter
  pub dying : {c : Conf} {t : State} {l u : ℕ} → length c.callers ≤ cap.frames → ((g : Bool) → step M g c ≡ Some t) → Within M cap Q l u t → Within M cap Q l (suc u) (At c)
  dying deep e k = rule.dying M cap.frames Q E deep e k

  module _ {f : Around} {m : Mem} {p h : ℕ} {ls vals : List ConstValue} {rest : List Instr} {l u : ℕ} where
    pub r_const : length f.callers ≤ cap.frames → (n : ℕ) → Within M cap Q l u (here cap f m p h ls (I32 n ∷ vals) rest) → Within M cap Q (suc l) (suc u) (here cap f m p h ls vals (ConstWord n ∷ rest))
    r_const deep n k = rule.r_const M cap.frames Q E deep n k

    pub r_get : {x : ℕ} {v : ConstValue} → length f.callers ≤ cap.frames → slice_get ls x ≡ Some v → Within M cap Q l u (here cap f m p h ls (v ∷ vals) rest) → Within M cap Q (suc l) (suc u) (here cap f m p h ls vals (LocalGet x ∷ rest))
    r_get deep e k = rule.r_get M cap.frames Q E deep e k

    pub r_set : {x : ℕ} {old v : ConstValue} → length f.callers ≤ cap.frames → slice_get ls x ≡ Some old → Within M cap Q l u (here cap f m p h (slice_set ls x v) vals rest) → Within M cap Q (suc l) (suc u) (here cap f m p h ls (v ∷ vals) (LocalSet x ∷ rest))
    r_set deep e k = rule.r_set M cap.frames Q E deep e k

    pub r_tee : {x : ℕ} {old v : ConstValue} → length f.callers ≤ cap.frames → slice_get ls x ≡ Some old → Within M cap Q l u (here cap f m p h (slice_set ls x v) (v ∷ vals) rest) → Within M cap Q (suc l) (suc u) (here cap f m p h ls (v ∷ vals) (LocalTee x ∷ rest))
    r_tee deep e k = rule.r_tee M cap.frames Q E deep e k

    pub r_load : {a o : ℕ} → length f.callers ≤ cap.frames → a + o + 4 ≤ length m → Within M cap Q l u (here cap f m p h ls (I32 (word m (a + o)) ∷ vals) rest) → Within M cap Q (suc l) (suc u) (here cap f m p h ls (I32 a ∷ vals) (Load o ∷ rest))
    r_load deep e k = rule.r_load M cap.frames Q E deep e k

    pub r_store : {a o n : ℕ} → length f.callers ≤ cap.frames → a + o + 4 ≤ length m → Within M cap Q l u (here cap f (put_word m (a + o) n) p h ls vals rest) → Within M cap Q (suc l) (suc u) (here cap f m p h ls (I32 n ∷ I32 a ∷ vals) (Put o ∷ rest))
    r_store deep e k = rule.r_store M cap.frames Q E deep e k

    pub r_heap : length f.callers ≤ cap.frames → Within M cap Q l u (here cap f m p h ls (I32 h ∷ vals) rest) → Within M cap Q (suc l) (suc u) (here cap f m p h ls vals (GlobalGet 2 ∷ rest))
    r_heap deep k = rule.r_global M cap.frames Q E {x = 2} {v = I32 h} deep refl k

    pub r_set_heap : {n : ℕ} → length f.callers ≤ cap.frames → Within M cap Q l u (here cap f m p n ls vals rest) → Within M cap Q (suc l) (suc u) (here cap f m p h ls (I32 n ∷ vals) (GlobalSet 2 ∷ rest))
    r_set_heap {n} deep k = rule.r_set_global M cap.frames Q E {x = 2} {old = I32 h} {v = I32 n} deep refl k

    pub r_set_status : length f.callers ≤ cap.frames → Within M cap Q l u (here cap f m p h ls vals rest) → Within M cap Q (suc l) (suc u) (here cap f m p h ls (I32 0 ∷ vals) (GlobalSet 1 ∷ rest))
    r_set_status deep k = rule.r_set_global M cap.frames Q E {x = 1} {old = I32 0} {v = I32 0} deep refl k

    pub r_get_status : length f.callers ≤ cap.frames → Within M cap Q l u (here cap f m p h ls (I32 0 ∷ vals) rest) → Within M cap Q (suc l) (suc u) (here cap f m p h ls vals (GlobalGet 1 ∷ rest))
    r_get_status deep k = rule.r_global M cap.frames Q E {x = 1} {v = I32 0} deep refl k

    pub r_size : length f.callers ≤ cap.frames → Within M cap Q l u (here cap f m p h ls (I32 p ∷ vals) rest) → Within M cap Q (suc l) (suc u) (here cap f m p h ls vals (MemorySize ∷ rest))
    r_size deep k = rule.r_size M cap.frames Q E deep k

    pub r_eq_yes : {x y : ℕ} → length f.callers ≤ cap.frames → x ≡ y → Within M cap Q l u (here cap f m p h ls (I32 1 ∷ vals) rest) → Within M cap Q (suc l) (suc u) (here cap f m p h ls (I32 y ∷ I32 x ∷ vals) (Operation op32.Eq ∷ rest))
    r_eq_yes deep e k = rule.r_eq_yes M cap.frames Q E deep e k

    pub r_eq_no : {x y : ℕ} → length f.callers ≤ cap.frames → (x ≡ y → ⊥) → Within M cap Q l u (here cap f m p h ls (I32 0 ∷ vals) rest) → Within M cap Q (suc l) (suc u) (here cap f m p h ls (I32 y ∷ I32 x ∷ vals) (Operation op32.Eq ∷ rest))
    r_eq_no deep e k = rule.r_eq_no M cap.frames Q E deep e k

    pub r_gt_yes : {x y : ℕ} → length f.callers ≤ cap.frames → y < x → Within M cap Q l u (here cap f m p h ls (I32 1 ∷ vals) rest) → Within M cap Q (suc l) (suc u) (here cap f m p h ls (I32 y ∷ I32 x ∷ vals) (Operation op32.GtU ∷ rest))
    r_gt_yes deep e k = rule.r_gt_yes M cap.frames Q E deep e k

    pub r_gt_no : {x y : ℕ} → length f.callers ≤ cap.frames → x ≤ y → Within M cap Q l u (here cap f m p h ls (I32 0 ∷ vals) rest) → Within M cap Q (suc l) (suc u) (here cap f m p h ls (I32 y ∷ I32 x ∷ vals) (Operation op32.GtU ∷ rest))
    r_gt_no deep e k = rule.r_gt_no M cap.frames Q E deep e k

    pub r_add : {x y : ℕ} → length f.callers ≤ cap.frames → x + y < 4294967296 → Within M cap Q l u (here cap f m p h ls (I32 (x + y) ∷ vals) rest) → Within M cap Q (suc l) (suc u) (here cap f m p h ls (I32 y ∷ I32 x ∷ vals) (Operation op32.Add ∷ rest))
    r_add deep e k = rule.r_add M cap.frames Q E deep e k

    -- pages become bytes
    pub r_bytes : {x : ℕ} → length f.callers ≤ cap.frames → x ≤ 16384 → Within M cap Q l u (here cap f m p h ls (I32 (65536 * x) ∷ vals) rest) → Within M cap Q (suc l) (suc u) (here cap f m p h ls (I32 16 ∷ I32 x ∷ vals) (Operation op32.Shl ∷ rest))
    r_bytes {x} deep small k = rule.r_binary M cap.frames Q E op32.Shl deep refl (shifted x small) k
      where
        shifted : (x : ℕ) → x ≤ 16384 → (x * 2 ^ (16 % 32)) % 2 ^ 32 ≡ 65536 * x
        shifted x h = omega arith

    -- a true test: the first arm runs; a false one: the second
    pub r_if : {t : BlockType} → length f.callers ≤ cap.frames → Within M cap Q l u (here cap (in_block (record { keeps = has_value t; goes_on = after_end 0 rest; below = vals }) f) m p h ls [] rest) → Within M cap Q (suc l) (suc u) (here cap f m p h ls (I32 1 ∷ vals) (If t ∷ rest))
    r_if deep k = rule.r_if M cap.frames Q E {n = 0} deep k

    pub r_if_not : {t : BlockType} → length f.callers ≤ cap.frames → Within M cap Q l u (here cap (in_block (record { keeps = has_value t; goes_on = after_end 0 rest; below = vals }) f) m p h ls [] (else_arm 0 rest)) → Within M cap Q (suc l) (suc u) (here cap f m p h ls (I32 0 ∷ vals) (If t ∷ rest))
    r_if_not deep k = rule.r_if_not M cap.frames Q E deep k

    pub r_else : {k : BlockLabel} → length f.callers ≤ cap.frames → Within M cap Q l u (here cap f m p h ls (vals ++ k.below) k.goes_on) → Within M cap Q (suc l) (suc u) (here cap (in_block k f) m p h ls vals (Else ∷ rest))
    r_else {k} deep w = rule.r_else M cap.frames Q E {k = k} deep w

    pub r_end : {k : BlockLabel} → length f.callers ≤ cap.frames → Within M cap Q l u (here cap f m p h ls (vals ++ k.below) rest) → Within M cap Q (suc l) (suc u) (here cap (in_block k f) m p h ls vals (End ∷ rest))
    r_end {k} deep w = rule.r_end M cap.frames Q E {k = k} deep w

    -- `calling false` is the call of a function without parameters
    pub r_call_0 : (n : ℕ) {x : ℕ} {code : List Instr} → length f.callers ≤ cap.frames → func_of M x ≡ Some (func type_constant n code) → Within M cap Q l u (here cap (callee f ls vals rest) m p h (zeros n) [] code) → Within M cap Q (suc l) (suc u) (here cap f m p h ls vals (Call x ∷ rest))
    r_call_0 n {x} {code} deep e k = rule.r_call M cap.frames Q E {x = x} {h = func type_constant n code} deep e (omega arith) k

    -- a function without parameters and result is called, and returns
    pub r_call_nothing : (n : ℕ) {x : ℕ} {code : List Instr} → length f.callers ≤ cap.frames → func_of M x ≡ Some (func type_main n code) → Within M cap Q l u (here cap (quiet (callee f ls vals rest)) m p h (zeros n) [] code) → Within M cap Q (suc l) (suc u) (here cap f m p h ls
        vals (Call x ∷ rest))
    r_call_nothing n {x} {code} deep e k = rule.r_call M cap.frames Q E {x = x} {h = func type_main n code} deep e (omega arith) k

    pub r_back_nothing : {ls' vals' : List ConstValue} {rest' : List Instr} → suc (length f.callers) ≤ cap.frames → Within M cap Q l u (here cap f m p h ls vals rest) → Within M cap Q (suc l) (suc u) (here cap (quiet (callee f ls vals rest)) m p h ls' vals' (End ∷ rest'))
    r_back_nothing deep k = rule.one M cap.frames Q E deep (λ g. refl) k

    pub r_indirect : (n : ℕ) {x y : ℕ} {a b : ConstValue} {code : List Instr} → length f.callers ≤ cap.frames → slice_get M.types 2 ≡ Some type_function → slice_get (table_of M) x ≡ Some (Some y) → func_of M y ≡ Some (func type_function n code) →
        Within M cap Q l u (here cap (callee f ls vals rest) m p h (a ∷ b ∷ zeros n) [] code) → Within M cap Q (suc l) (suc u) (here cap f m p h ls (I32 x ∷ b ∷ a ∷ vals) (CallIndirect 2 0 ∷ rest))
    r_indirect n {x} {y} {a} {b} {code} deep et d e k = rule.r_indirect M cap.frames Q E {x = x} {y = y} {index = 2} {t = type_function} {h = func type_function n code} deep et d e refl (omega arith) k

    -- a grow: granted within the maximum, or refused
    pub r_grow : {n : ℕ} → length f.callers ≤ cap.frames → (p + n ≤ greatest_pages M.memory → Within M cap Q l u (here cap f (m ++ zeroed n) (p + n) h ls (I32 p ∷ vals) rest)) →
        ((b : Bool) → (b ≡ false → greatest_pages M.memory < p + n) → Within M cap Q l u (rule.here f (refusing cap b m p h) ls (I32 (2 ^ 32 - 1) ∷ vals) rest)) → Within M cap Q (suc l) (suc u) (here cap f m p h ls (I32 n ∷ vals) (MemoryGrow ∷ rest))
    r_grow deep go stop = rule.r_grow M cap.frames Q E deep go stop

  -- a function returns, whoever called it
  pub r_return : {m : Mem} {p h : ℕ} {ls vals : List ConstValue} {rest : List Instr} {l u : ℕ} {w : ℕ} (callers : List Frame) → length callers ≤ cap.frames → Within M cap Q l u (returned cap callers m p h w) →
      Within M cap Q (suc l) (suc u) (here cap (record { keeps = true; labels = []; callers = callers }) m p h ls (I32 w ∷ vals) (End ∷ rest))
  r_return callers deep k = rule.r_return M cap.frames Q E callers deep k
