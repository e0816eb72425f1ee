-- One rule an instruction: where every run from after it goes well, every run from before it does.
use Rattle.std.proofs.Common.{◌≡◌, ℕ, zero, suc, ◌+◌, ◌-◌, ◌*◌, ◌%◌, ◌^◌, ◌<◌, ◌≤◌, List, [], ◌∷◌, ◌++◌, length, drop, Option, Some, None, Bool, true, false, refl, ap, ◌∙◌, arith, eq-eqb, le-leb}
use Rattle.std.proofs.lemmas.Bool.{lt-leb, leb-true, leb-false, ne_eqb}
use Rattle.std.specs.Prelude.{slice_get, slice_set, nat_le, if◌then◌else◌}
use Rattle.wasm_core.specs.declared.types.FuncType.{FuncType}
use Rattle.wasm_core.specs.declared.types.ConstValue.{ConstValue}
use Rattle.wasm_core.specs.declared.types.ConstValue.TheVariants.{I32}
use Rattle.wasm_core.specs.declared.instrs.BlockType.{BlockType}
use Rattle.wasm_core.specs.declared.instrs.Access.{Access}
use Rattle.wasm_core.specs.declared.instrs.I32Op.{I32Op}
use Rattle.wasm_core.specs.declared.instrs.I32Op.TheVariants as op
use Rattle.wasm_core.specs.declared.instrs.Instr.{Instr}
use Rattle.wasm_core.specs.declared.instrs.Instr.TheVariants.{Unreachable, Nop, Block, Loop, If, Else, End, Br, Call, CallIndirect, Drop, LocalGet, LocalSet, LocalTee, GlobalGet, GlobalSet, I32Load, I32Store, MemorySize, MemoryGrow, I32Const, I32 as Operation}
use Rattle.wasm_core.specs.declared.ended.Ended.TheVariants.{Returned, Trapped}
use Rattle.wasm_core.specs.declared.ended.TrapKind.TheVariants as kind
use Rattle.wasm_core.specs.Parts.{Parts}
use Rattle.wasm_core.specs.Memory.{word, put_word, zeroed}
use Rattle.wasm_core.specs.Arithmetic.{flag, is_unary, binary}
use Rattle.wasm_core.specs.Instance.{Func, func_of, table_of, greatest_pages}
use Rattle.wasm_core.specs.MachineStep.{BlockLabel, Frame, Store, Conf, State, At, Over, step, after_end, else_arm, has_value, on_some, going_on, trap, call, call_entry, same_func_type, frame_of, operation}
use Rattle.wasm_core.specs.RunTree.{Within, now, gone, moves}

-- what stays while an instruction inside a function runs
pub record Around : Type 0 where
  pub keeps : Bool
  pub labels : List BlockLabel
  pub callers : List Frame

abbrev pub conf : Around → Store → List ConstValue → List ConstValue → List Instr → Conf
conf f s ls vals rest = record {
  store = s;
  current = record { keeps = f.keeps; locals = ls; labels = f.labels; operands = vals; rest = rest };
  callers = f.callers;
}

abbrev pub here : Around → Store → List ConstValue → List ConstValue → List Instr → State
here f s ls vals rest = At (conf f s ls vals rest)

abbrev pub in_block : BlockLabel → Around → Around
in_block k f = record f { labels = k ∷ f.labels }

-- a function runs that this one calls
abbrev pub called : Around → Store → List ConstValue → List ConstValue → List Instr → Func → List ConstValue → State
called f s ls vals rest g args = At (record {
  store = s;
  current = frame_of g args;
  callers = record { keeps = f.keeps; locals = ls; labels = f.labels; operands = vals; rest = rest } ∷ f.callers;
})

-- a function returns a word
abbrev pub returned : List Frame → Store → ConstValue → State
returned [] s w = Over Returned s
returned (a ∷ callers) s w = here (record { keeps = a.keeps; labels = a.labels; callers = callers }) s a.locals (w ∷ a.operands) a.rest

module _ (M : Parts) (frames : ℕ) (Q E : State → Type 0) where
  pub looser : {l u l' u' : ℕ} {s : State} → Within M frames Q E l u s → l' ≤ l → u ≤ u' → Within M frames Q E l' u' s
  looser {l' = zero} (now q) a b = now q
  looser {l' = suc l'} (now q) a b = absurd (omega arith)
  looser (gone e) a b = gone e
  looser {u' = zero} (moves s t deep n x y j k) a b = absurd (omega arith)
  looser {u' = suc u'} (moves {l = i} s t deep n x y j k) a b = moves {l = i} s t deep (omega arith) x y (looser j (omega arith) (omega arith)) (looser k (omega arith) (omega arith))

  -- a step that is the same whether a grow is granted or refused
  pub one : {c : Conf} {t : State} {l u : ℕ} → length c.callers ≤ frames → ((g : Bool) → step M g c ≡ Some t) → Within M frames Q E l u t → Within M frames Q E (suc l) (suc u) (At c)
  one {t = t} deep e k = moves t t deep (omega arith) (e true) (e false) k k

  -- on the way to a trap, the least number of steps doesn't matter
  pub dying : {c : Conf} {t : State} {l u : ℕ} → length c.callers ≤ frames → ((g : Bool) → step M g c ≡ Some t) → Within M frames Q E l u t → Within M frames Q E l (suc u) (At c)
  dying {t = t} {l} deep e k = moves {l = l} t t deep (omega arith) (e true) (e false) k k

  module _ {f : Around} {s : Store} {ls vals : List ConstValue} {rest : List Instr} {l u : ℕ} where
    pub r_const : length f.callers ≤ frames → (n : ℕ) → Within M frames Q E l u (here f s ls (I32 n ∷ vals) rest) → Within M frames Q E (suc l) (suc u) (here f s ls vals (I32Const n ∷ rest))
    r_const deep n k = one deep (λ g. refl) k

    pub r_nop : length f.callers ≤ frames → Within M frames Q E l u (here f s ls vals rest) → Within M frames Q E (suc l) (suc u) (here f s ls vals (Nop ∷ rest))
    r_nop deep k = one deep (λ g. refl) k

    pub r_drop : {v : ConstValue} → length f.callers ≤ frames → Within M frames Q E l u (here f s ls vals rest) → Within M frames Q E (suc l) (suc u) (here f s ls (v ∷ vals) (Drop ∷ rest))
    r_drop deep k = one deep (λ g. refl) k

    pub r_get : {x : ℕ} {v : ConstValue} → length f.callers ≤ frames → slice_get ls x ≡ Some v → Within M frames Q E l u (here f s ls (v ∷ vals) rest) → Within M frames Q E (suc l) (suc u) (here f s ls vals (LocalGet x ∷ rest))
    r_get {x} {v} deep e k = one deep (λ g. ap (λ (o : Option ConstValue). on_some o (λ y. going_on (conf f s ls vals (LocalGet x ∷ rest)) (y ∷ vals) rest)) e) k

    pub r_set : {x : ℕ} {old v : ConstValue} → length f.callers ≤ frames → slice_get ls x ≡ Some old → Within M frames Q E l u (here f s (slice_set ls x v) vals rest) → Within M frames Q E (suc l) (suc u) (here f s ls (v ∷ vals) (LocalSet x ∷ rest))
    r_set {x} {old} {v} deep e k = one deep (λ g. ap (λ (o : Option ConstValue). on_some o (λ old. Some (here f s (slice_set ls x v) vals rest))) e) k

    pub r_tee : {x : ℕ} {old v : ConstValue} → length f.callers ≤ frames → slice_get ls x ≡ Some old → Within M frames Q E l u (here f s (slice_set ls x v) (v ∷ vals) rest) → Within M frames Q E (suc l) (suc u) (here f s ls (v ∷ vals) (LocalTee x ∷ rest))
    r_tee {x} {old} {v} deep e k = one deep (λ g. ap (λ (o : Option ConstValue). on_some o (λ old. Some (here f s (slice_set ls x v) (v ∷ vals) rest))) e) k

    pub r_load : {i : ℕ} {a : Access} → length f.callers ≤ frames → i + a.offset + 4 ≤ length s.memory → Within M frames Q E l u (here f s ls (I32 (word s.memory (i + a.offset)) ∷ vals) rest) → Within M frames Q E (suc l) (suc u) (here f s ls (I32 i ∷ vals) (I32Load a ∷ rest))
    r_load {i} {a} deep e k = one deep (λ g. ap (λ (b : Bool). if b then Some (here f s ls (I32 (word s.memory (i + a.offset)) ∷ vals) rest) else Some (Over (Trapped kind.OutOfBounds) s)) (le-leb _ _ e)) k

    pub r_store : {i n : ℕ} {a : Access} → length f.callers ≤ frames → i + a.offset + 4 ≤ length s.memory → Within M frames Q E l u (here f (record s { memory = put_word s.memory (i + a.offset) n }) ls vals rest) → Within M frames Q E (suc l) (suc u) (here f s ls
        (I32 n ∷ I32 i ∷ vals) (I32Store a ∷ rest))
    r_store {i} {n} {a} deep e k = one deep (λ g. ap (λ (b : Bool). if b then Some (here f (record s { memory = put_word s.memory (i + a.offset) n }) ls vals rest) else Some (Over (Trapped kind.OutOfBounds) s)) (le-leb _ _ e)) k

    pub r_global : {x : ℕ} {v : ConstValue} → length f.callers ≤ frames → slice_get s.globals x ≡ Some v → Within M frames Q E l u (here f s ls (v ∷ vals) rest) → Within M frames Q E (suc l) (suc u) (here f s ls vals (GlobalGet x ∷ rest))
    r_global {x} {v} deep e k = one deep (λ g. ap (λ (o : Option ConstValue). on_some o (λ y. going_on (conf f s ls vals (GlobalGet x ∷ rest)) (y ∷ vals) rest)) e) k

    pub r_set_global : {x : ℕ} {old v : ConstValue} → length f.callers ≤ frames → slice_get s.globals x ≡ Some old → Within M frames Q E l u (here f (record s { globals = slice_set s.globals x v }) ls vals rest) → Within M frames Q E (suc l) (suc u) (here f s ls (v ∷ vals) (GlobalSet x ∷ rest))
    r_set_global {x} {old} {v} deep e k = one deep (λ g. ap (λ (o : Option ConstValue). on_some o (λ old. Some (here f (record s { globals = slice_set s.globals x v }) ls vals rest))) e) k

    pub r_size : length f.callers ≤ frames → Within M frames Q E l u (here f s ls (I32 s.pages ∷ vals) rest) → Within M frames Q E (suc l) (suc u) (here f s ls vals (MemorySize ∷ rest))
    r_size deep k = one deep (λ g. refl) k

    -- an operation of two operands, by what it gives
    pub r_binary : {x y n : ℕ} (o : I32Op) → length f.callers ≤ frames → is_unary o ≡ false → binary o x y ≡ n → Within M frames Q E l u (here f s ls (I32 n ∷ vals) rest) → Within M frames Q E (suc l) (suc u) (here f s ls (I32 y ∷ I32 x ∷ vals) (Operation o ∷ rest))
    r_binary {x} {y} {n} o deep b e k = one deep (λ g. ap (λ (t : Bool). operation t o rest (conf f s ls (I32 y ∷ I32 x ∷ vals) (Operation o ∷ rest))) b ∙ ap (λ (n : ℕ). Some (here f s ls (I32 n ∷ vals) rest)) e) k

    pub r_eq_yes : {x y : ℕ} → length f.callers ≤ frames → x ≡ y → Within M frames Q E l u (here f s ls (I32 1 ∷ vals) rest) → Within M frames Q E (suc l) (suc u) (here f s ls (I32 y ∷ I32 x ∷ vals) (Operation op.Eq ∷ rest))
    r_eq_yes {x} {y} deep e k = r_binary op.Eq deep refl (ap flag (eq-eqb x y e)) k

    pub r_eq_no : {x y : ℕ} → length f.callers ≤ frames → (x ≡ y → ⊥) → Within M frames Q E l u (here f s ls (I32 0 ∷ vals) rest) → Within M frames Q E (suc l) (suc u) (here f s ls (I32 y ∷ I32 x ∷ vals) (Operation op.Eq ∷ rest))
    r_eq_no {x} {y} deep e k = r_binary op.Eq deep refl (ap flag (ne_eqb x y e)) k

    pub r_gt_yes : {x y : ℕ} → length f.callers ≤ frames → y < x → Within M frames Q E l u (here f s ls (I32 1 ∷ vals) rest) → Within M frames Q E (suc l) (suc u) (here f s ls (I32 y ∷ I32 x ∷ vals) (Operation op.GtU ∷ rest))
    r_gt_yes {x} {y} deep e k = r_binary op.GtU deep refl (ap flag (le-leb (suc y) x e)) k

    pub r_gt_no : {x y : ℕ} → length f.callers ≤ frames → x ≤ y → Within M frames Q E l u (here f s ls (I32 0 ∷ vals) rest) → Within M frames Q E (suc l) (suc u) (here f s ls (I32 y ∷ I32 x ∷ vals) (Operation op.GtU ∷ rest))
    r_gt_no {x} {y} deep e k = r_binary op.GtU deep refl (ap flag (lt-leb (suc y) x (omega arith))) k

    pub r_add : {x y : ℕ} → length f.callers ≤ frames → x + y < 4294967296 → Within M frames Q E l u (here f s ls (I32 (x + y) ∷ vals) rest) → Within M frames Q E (suc l) (suc u) (here f s ls (I32 y ∷ I32 x ∷ vals) (Operation op.Add ∷ rest))
    r_add {x} {y} deep e k = r_binary op.Add deep refl (omega arith) k

    pub r_mul : {x y : ℕ} → length f.callers ≤ frames → x * y < 4294967296 → Within M frames Q E l u (here f s ls (I32 (x * y) ∷ vals) rest) → Within M frames Q E (suc l) (suc u) (here f s ls (I32 y ∷ I32 x ∷ vals) (Operation op.Mul ∷ rest))
    r_mul {x} {y} deep e k = r_binary op.Mul deep refl (small (x * y) e) k
      where
        small : (n : ℕ) → n < 4294967296 → n % 4294967296 ≡ n
        small n h = omega arith

    -- blocks
    pub r_block : {b : BlockType} → length f.callers ≤ frames → Within M frames Q E l u (here (in_block (record { keeps = has_value b; goes_on = after_end 0 rest; below = vals }) f) s ls [] rest) → Within M frames Q E (suc l) (suc u) (here f s ls vals (Block b ∷ rest))
    r_block deep k = one deep (λ g. refl) k

    pub r_loop : {b : BlockType} → length f.callers ≤ frames → Within M frames Q E l u (here (in_block (record { keeps = false; goes_on = Loop b ∷ rest; below = vals }) f) s ls [] rest) → Within M frames Q E (suc l) (suc u) (here f s ls vals (Loop b ∷ rest))
    r_loop deep k = one deep (λ g. refl) k

    -- a true test: the first arm runs; a false one: the second
    pub r_if : {b : BlockType} {n : ℕ} → length f.callers ≤ frames → Within M frames Q E l u (here (in_block (record { keeps = has_value b; goes_on = after_end 0 rest; below = vals }) f) s ls [] rest) → Within M frames Q E (suc l) (suc u) (here f s ls (I32 (suc n) ∷ vals) (If b ∷ rest))
    r_if deep k = one deep (λ g. refl) k

    pub r_if_not : {b : BlockType} → length f.callers ≤ frames → Within M frames Q E l u (here (in_block (record { keeps = has_value b; goes_on = after_end 0 rest; below = vals }) f) s ls [] (else_arm 0 rest)) → Within M frames Q E (suc l) (suc u) (here f s ls (I32 0 ∷ vals) (If b ∷ rest))
    r_if_not deep k = one deep (λ g. refl) k

    pub r_else : {k : BlockLabel} → length f.callers ≤ frames → Within M frames Q E l u (here f s ls (vals ++ k.below) k.goes_on) → Within M frames Q E (suc l) (suc u) (here (in_block k f) s ls vals (Else ∷ rest))
    r_else deep k = one deep (λ g. refl) k

    pub r_end : {k : BlockLabel} → length f.callers ≤ frames → Within M frames Q E l u (here f s ls (vals ++ k.below) rest) → Within M frames Q E (suc l) (suc u) (here (in_block k f) s ls vals (End ∷ rest))
    r_end deep k = one deep (λ g. refl) k

    -- a branch to the innermost block, which takes nothing along
    pub r_br : {on : List Instr} {below : List ConstValue} → length f.callers ≤ frames → Within M frames Q E l u (here f s ls below on) → Within M frames Q E (suc l) (suc u) (here (in_block (record { keeps = false; goes_on = on; below = below }) f) s ls vals (Br 0 ∷ rest))
    r_br deep k = one deep (λ g. refl) k

    -- a function is called, whose arguments are the topmost operands
    pub r_call : {x : ℕ} {h : Func} → length f.callers ≤ frames → func_of M x ≡ Some h → length h.type.params ≤ length vals → Within M frames Q E l u (called f s ls (drop (length h.type.params) vals) rest h vals) → Within M frames Q E (suc l) (suc u) (here f s ls vals (Call x ∷ rest))
    r_call {x} {h} deep e few k =
        one {c = conf f s ls vals (Call x ∷ rest)} deep
        (λ g. ap (λ (o : Option Func). on_some o (λ h. call (conf f s ls vals (Call x ∷ rest)) h vals rest)) e
        ∙ ap (λ (b : Bool). if b then Some (called f s ls (drop (length h.type.params) vals) rest h vals) else None) (le-leb _ _ few)) k

    pub r_indirect : {x y index : ℕ} {t : FuncType} {h : Func} → length f.callers ≤ frames → slice_get M.types index ≡ Some t → slice_get (table_of M) x ≡ Some (Some
        y) → func_of M y ≡ Some h → same_func_type t h.type ≡ true → length h.type.params ≤ length vals → Within M frames Q E l u (called f s ls (drop (length h.type.params) vals) rest h vals) → Within M frames Q E (suc l) (suc u) (here f s ls (I32 x ∷ vals) (CallIndirect index 0 ∷ rest))
    r_indirect {x} {y} {index} {t} {h} deep et d e is few k =
        let c = conf f s ls (I32 x ∷ vals) (CallIndirect index 0 ∷ rest) in
        one {c = c} deep
        (λ g. ap (λ (o : Option FuncType). on_some o (λ t. call_entry M t (slice_get (table_of M) x) vals rest c)) et
        ∙ ap (λ (o : Option (Option ℕ)). call_entry M t o vals rest c) d
        ∙ ap (λ (o : Option Func). on_some o (λ h. if same_func_type t h.type then call c h vals rest else trap kind.IndirectType c)) e
        ∙ ap (λ (b : Bool). if b then call c h vals rest else trap kind.IndirectType c) is
        ∙ ap (λ (b : Bool). if b then Some (called f s ls (drop (length h.type.params) vals) rest h vals) else None) (le-leb _ _ few)) k

    -- a grow: granted within the maximum, or refused
    pub r_grow : {n : ℕ} → length f.callers ≤ frames → (s.pages + n ≤ greatest_pages M.memory → Within M frames Q E l u (here f (record s { pages = s.pages + n; memory = s.memory ++ zeroed n }) ls (I32 s.pages ∷ vals) rest)) → ((b : Bool) →
        (b ≡ false → greatest_pages M.memory < s.pages + n) → Within M frames Q E l u (here f (record s { refused = true; by_choice = b }) ls (I32 (2 ^ 32 - 1) ∷ vals) rest)) → Within M frames Q E (suc l) (suc u) (here f s ls (I32 n ∷ vals) (MemoryGrow ∷ rest))
    r_grow {n} deep go stop = cases (nat_le (s.pages + n) (greatest_pages M.memory)) refl
      where
        yes : State
        yes = here f (record s { pages = s.pages + n; memory = s.memory ++ zeroed n }) ls (I32 s.pages ∷ vals) rest

        not : Bool → State
        not b = here f (record s { refused = true; by_choice = b }) ls (I32 (2 ^ 32 - 1) ∷ vals) rest

        cases : (b : Bool) → nat_le (s.pages + n) (greatest_pages M.memory) ≡ b → Within M frames Q E (suc l) (suc u) (here f s ls (I32 n ∷ vals) (MemoryGrow ∷ rest))
        cases true e = moves {l = l} yes (not true) deep (omega arith) (ap (λ (b : Bool). if b then Some yes else Some (not b)) e) (ap (λ (b : Bool). Some (not b)) e) (go (leb-true _ _ e)) (stop true (λ z. cc))
        cases false e = moves {l = l} (not false) (not false) deep (omega arith) (ap (λ (b : Bool). if b then Some yes else Some (not b)) e) (ap (λ (b : Bool). Some (not b)) e) (stop false (λ z. leb-false _ _ e)) (stop false (λ z. leb-false _ _ e))

  -- a function returns, whoever called it
  pub r_return : {s : Store} {ls vals : List ConstValue} {rest : List Instr} {l u : ℕ} {w : ConstValue} (callers : List Frame) → length callers ≤ frames → Within M frames Q E l u (returned callers s w) → Within M frames Q E (suc l) (suc u) (here
      (record { keeps = true; labels = []; callers = callers }) s ls (w ∷ vals) (End ∷ rest))
  r_return [] deep k = one deep (λ g. refl) k
  r_return (a ∷ callers) deep k = one deep (λ g. refl) k

  -- `main` returns, which has no result
  pub r_over : {s : Store} {ls vals : List ConstValue} {rest : List Instr} {l u : ℕ} → Within M frames Q E l u (Over Returned s) → Within M frames Q E (suc l) (suc u) (here (record { keeps = false; labels = []; callers = [] }) s ls vals (End ∷ rest))
  r_over k = one (omega arith) (λ g. refl) k

  -- `unreachable` is a step
  pub r_unreachable : {f : Around} {s : Store} {ls vals : List ConstValue} {rest : List Instr} {l u : ℕ} → length f.callers ≤ frames → E (Over (Trapped kind.Unreachable) s) → Within M frames Q E l (suc u) (here f s ls vals (Unreachable ∷ rest))
  r_unreachable {l = l} deep e = dying {l = l} deep (λ g. refl) (gone e)
