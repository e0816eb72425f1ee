-- In every run of an emitted module the status is 1 only after a refused grow.
use Rattle.std.proofs.Common.{◌≡◌, ℕ, zero, suc, ◌+◌, ◌≤◌, List, [], ◌∷◌, ◌++◌, length, drop, Option, Some, None, Bool, true, false, refl, sym, ◌∙◌, subst, arith}
use Rattle.std.proofs.lemmas.Bool.{leb-true, eqb-true}
use Rattle.std.specs.Prelude.{slice_get, slice_set, nat_le, nat_eq, if◌then◌else◌, ◌&&◌}
use Rattle.std.proofs.lemmas.Option.{same_Some}
use Rattle.wasm_core.specs.declared.types.FuncType.{FuncType}
use Rattle.wasm_core.specs.declared.types.ConstValue.{ConstValue}
use Rattle.wasm_core.specs.declared.types.ConstValue.TheVariants.{I32, I64}
use Rattle.wasm_core.specs.declared.instrs.I32Op.{I32Op}
use Rattle.wasm_core.specs.declared.instrs.I32Op.TheVariants as op32
use Rattle.wasm_core.specs.declared.instrs.Instr.{Instr}
use Rattle.wasm_core.specs.declared.instrs.Instr.TheVariants.{Unreachable, Nop, Block, Loop, If, Else, End, Br, BrIf, BrTable, Return, Call, CallIndirect, ReturnCall, ReturnCallIndirect, Drop, LocalGet, LocalSet, LocalTee, GlobalGet, GlobalSet, I32Load, I32Load8U, I32Store, I32Store8, MemorySize, MemoryGrow, I32Const, I64Const, I32 as Operation}
use Rattle.wasm_core.specs.Parts.{Parts}
use Rattle.wasm_core.specs.Arithmetic.{flag, is_unary}
use Rattle.wasm_core.specs.Instance.{Func, func_of, table_of, greatest_pages}
use Rattle.wasm_core.specs.MachineStep.{Bracket, Opens, Divides, Closes, Plain, bracket, past_end, to_else, after_end, else_arm, BlockLabel, Frame, Store, Conf, State, At, Over, on_some, taking, arm, leave_block, back, at_end, jump, call, tail_call, on_entry, same_func_type, within, operation, act, next, step, Reach}
use Rattle.wasm_core.proofs.Small.{no}

-- an emitted instruction that neither grows memory nor sets the status
abbrev pub NotStatus : Instr → Type 0
NotStatus Unreachable = Unit {0}
NotStatus (Loop t) = Unit {0}
NotStatus (Br x) = Unit {0}
NotStatus (If t) = Unit {0}
NotStatus Else = Unit {0}
NotStatus End = Unit {0}
NotStatus (Call f) = Unit {0}
NotStatus (CallIndirect index table) = Unit {0}
NotStatus (ReturnCall f) = Unit {0}
NotStatus (ReturnCallIndirect index table) = Unit {0}
NotStatus (LocalGet x) = Unit {0}
NotStatus (LocalSet x) = Unit {0}
NotStatus (LocalTee x) = Unit {0}
NotStatus (GlobalGet x) = Unit {0}
NotStatus (GlobalSet x) = x ≡ 1 → ⊥
NotStatus (I32Load a) = Unit {0}
NotStatus (I32Store a) = Unit {0}
NotStatus MemorySize = Unit {0}
NotStatus (I32Const n) = Unit {0}
NotStatus (Operation op) = Unit {0}
NotStatus _ = ⊥

-- the status is set only from a test of a grow
pub data Wary : List Instr → Type 0 where
  w_nil : Wary []
  w_cons : {i : Instr} {rest : List Instr} → NotStatus i → Wary rest → Wary (i ∷ rest)
  w_grow : {n : ℕ} {rest : List Instr} → n ≡ 4294967295 → Wary rest → Wary (MemoryGrow ∷ I32Const n ∷ Operation op32.Eq ∷ GlobalSet 1 ∷ rest)

pub data WaryAt (refused : Bool) : List ConstValue → List Instr → Type 0 where
  at_wary : {vals : List ConstValue} {rest : List Instr} → Wary rest → WaryAt refused vals rest
  at_grown : {x n : ℕ} {vals : List ConstValue} {rest : List Instr} → n ≡ 4294967295 → (x ≡ 4294967295 → refused ≡ true) → Wary rest → WaryAt refused (I32 x ∷ vals) (I32Const n ∷ Operation op32.Eq ∷ GlobalSet 1 ∷ rest)
  at_const : {x n : ℕ} {vals : List ConstValue} {rest : List Instr} → n ≡ 4294967295 → (x ≡ 4294967295 → refused ≡ true) → Wary rest → WaryAt refused (I32 n ∷ I32 x ∷ vals) (Operation op32.Eq ∷ GlobalSet 1 ∷ rest)
  at_eq : {y : ℕ} {vals : List ConstValue} {rest : List Instr} → (y ≡ 1 → refused ≡ true) → Wary rest → WaryAt refused (I32 y ∷ vals) (GlobalSet 1 ∷ rest)

abbrev pub Labels : List BlockLabel → Type 0
Labels [] = Unit {0}
Labels (k ∷ ks) = Wary k.goes_on × Labels ks

abbrev pub Callers : List Frame → Type 0
Callers [] = Unit {0}
Callers (a ∷ as') = Wary a.rest × Labels a.labels × Callers as'

-- the status 1 tells of a refused grow
abbrev pub Tells : Store → Type 0
Tells s = slice_get s.globals 1 ≡ Some (I32 1) → s.refused ≡ true

pub record Honest (c : Conf) : Type 0 where
  pub now : WaryAt c.store.refused c.current.operands c.current.rest
  pub labels : Labels c.current.labels
  pub callers : Callers c.callers
  pub status : Tells c.store
  pub pages : c.store.pages ≤ 65536

abbrev pub HonestState : State → Type 0
HonestState (At c) = Honest c
HonestState (Over e s) = Tells s

abbrev pub HonestNext : Option State → Type 0
HonestNext None = Unit {0}
HonestNext (Some s) = HonestState s

some_ok : {A : Type 0} (o : Option A) (f : A → Option State) → ((x : A) → o ≡ Some x → HonestNext (f x)) → HonestNext (on_some o f)
some_ok None f h = tt
some_ok (Some x) f h = h x refl

if_ok : (b : Bool) (x y : Option State) → (b ≡ true → HonestNext x) → (b ≡ false → HonestNext y) → HonestNext (if b then x else y)
if_ok true x y hx hy = hx refl
if_ok false x y hx hy = hy refl

wary_past : {rest : List Instr} (b : Bracket) (d : ℕ) → ((e : ℕ) → Wary (after_end e rest)) → Wary rest → Wary (past_end b d (λ e. after_end e rest) rest)
wary_past Opens d h w = h (suc d)
wary_past Closes zero h w = w
wary_past Closes (suc d) h w = h d
wary_past Divides d h w = h d
wary_past Plain d h w = h d

wary_end : {code : List Instr} (d : ℕ) → Wary code → Wary (after_end d code)
wary_end d w_nil = w_nil
wary_end d (w_cons {i = i} n w) = wary_past (bracket i) d (λ e. wary_end e w) w
wary_end d (w_grow e w) = wary_end d w

wary_to : (i : Instr) {rest : List Instr} (b : Bracket) (d : ℕ) → ((e : ℕ) → Wary (else_arm e rest)) → NotStatus i → Wary rest → Wary (to_else b d (λ e. else_arm e rest) i rest)
wary_to i Opens d h n w = h (suc d)
wary_to i Closes zero h n w = w_cons n w
wary_to i Closes (suc d) h n w = h d
wary_to i Divides zero h n w = w
wary_to i Divides (suc d) h n w = h (suc d)
wary_to i Plain d h n w = h d

wary_else : {code : List Instr} (d : ℕ) → Wary code → Wary (else_arm d code)
wary_else d w_nil = w_nil
wary_else d (w_cons {i = i} n w) = wary_to i (bracket i) d (λ e. wary_else e w) n w
wary_else d (w_grow e w) = wary_else d w

other_global : (gs : List ConstValue) (x : ℕ) (y : ConstValue) → (x ≡ 1 → ⊥) → slice_get (slice_set gs x y) 1 ≡ slice_get gs 1
other_global [] x y n = refl
other_global (g ∷ gs) zero y n = refl
other_global (g ∷ []) (suc x) y n = refl
other_global (g ∷ h ∷ gs) (suc zero) y n = absurd (n refl)
other_global (g ∷ h ∷ gs) (suc (suc x)) y n = refl

one : {y : ℕ} → Some (I32 y) ≡ Some (I32 1) → y ≡ 1
one e = cc

this_global : (gs : List ConstValue) (y : ℕ) → slice_get (slice_set gs 1 (I32 y)) 1 ≡ Some (I32 1) → y ≡ 1
this_global [] y e = no e
this_global (g ∷ []) y e = no e
this_global (g ∷ h ∷ gs) y e = one e

flag_one : (b : Bool) → flag b ≡ 1 → b ≡ true
flag_one true e = refl
flag_one false e = absurd (omega arith)

arm_wary : (x : ℕ) {rest : List Instr} → Wary rest → Wary (arm x rest)
arm_wary zero w = wary_else 0 w
arm_wary (suc x) w = w

label_wary : (ks : List BlockLabel) (x : ℕ) {k : BlockLabel} → Labels ks → slice_get ks x ≡ Some k → Wary k.goes_on
label_wary [] x l e = no e
label_wary (k ∷ ks) zero l e = subst (λ (k : BlockLabel). Wary k.goes_on) (same_Some _ _ e) l.0
label_wary (k ∷ ks) (suc x) l e = label_wary ks x l.1 e

labels_left : (n : ℕ) (ks : List BlockLabel) → Labels ks → Labels (drop n ks)
labels_left zero ks l = l
labels_left (suc n) [] l = tt
labels_left (suc n) (k ∷ ks) l = labels_left n ks l.1

module _ (m : Parts) (funcs : (f : ℕ) (g : Func) → func_of m f ≡ Some g → Wary g.body.code) (small : greatest_pages m.memory ≤ 65536) (granted : Bool) where
  module _ (s : Store) (keeps : Bool) (ls : List ConstValue) (ks : List BlockLabel) (callers : List Frame) (lw : Labels ks) (cw : Callers callers) (st : Tells s) (pg : s.pages ≤ 65536) where
    abbrev at : List ConstValue → List Instr → Conf
    at vals rest = record { store = s; current = record { keeps = keeps; locals = ls; labels = ks; operands = vals; rest = rest }; callers = callers }

    on : {ls' vals : List ConstValue} {rest : List Instr} → Wary rest → Honest (record { store = s; current = record { keeps = keeps; locals = ls'; labels = ks; operands = vals; rest = rest }; callers = callers })
    on w = record { now = at_wary w; labels = lw; callers = cw; status = st; pages = pg }

    called : (g : Func) (vals operands : List ConstValue) (rest all : List Instr) → Wary g.body.code → Wary rest → HonestNext (call (at vals all) g operands rest)
    called g vals operands rest all wg w = if_ok (nat_le (length g.type.params) (length operands)) _ _ (λ e. record { now = at_wary wg; labels = tt; callers = (w, lw, cw); status = st; pages = pg }) (λ e. tt)

    replaced : (g : Func) (vals operands : List ConstValue) (all : List Instr) → Wary g.body.code → HonestNext (tail_call (at vals all) g operands)
    replaced g vals operands all wg = if_ok (nat_le (length g.type.params) (length operands)) _ _ (λ e. record { now = at_wary wg; labels = tt; callers = cw; status = st; pages = pg }) (λ e. tt)

    going_back : (vals : List ConstValue) (all : List Instr) (as' : List Frame) (top : List ConstValue) → Callers as' → HonestNext (back (at vals all) as' top)
    going_back vals all [] top cs = st
    going_back vals all (a ∷ as') top cs = record { now = at_wary cs.0; labels = cs.1; callers = cs.2; status = st; pages = pg }

    leaving : (b : Bool) (vals operands : List ConstValue) (all : List Instr) → HonestNext (taking b operands (λ top. back (at vals all) callers top))
    leaving false vals operands all = going_back vals all callers [] cw
    leaving true vals [] all = tt
    leaving true vals (x ∷ operands) all = going_back vals all callers (x ∷ []) cw

    branching : (b : Bool) (operands below vals : List ConstValue) (goes all : List Instr) (labels : List BlockLabel) → Wary goes → Labels labels →
        HonestNext (taking b operands (λ top. Some (At (record (at vals all) { current = record (at vals all).current { labels = labels; operands = top ++ below; rest = goes } }))))
    branching false operands below vals goes all labels w l = record { now = at_wary w; labels = l; callers = cw; status = st; pages = pg }
    branching true [] below vals goes all labels w l = tt
    branching true (x ∷ operands) below vals goes all labels w l = record { now = at_wary w; labels = l; callers = cw; status = st; pages = pg }

    jump_ok : (x : ℕ) (vals : List ConstValue) (all : List Instr) (o : Option BlockLabel) → slice_get ks x ≡ o → HonestNext (jump (at vals all) x vals o)
    jump_ok x vals all None e = if_ok (nat_eq x (length ks)) _ _ (λ z. leaving keeps vals vals all) (λ z. tt)
    jump_ok x vals all (Some k) e = branching k.keeps vals k.below vals k.goes_on all (drop (x + 1) ks) (label_wary ks x lw e) (labels_left (x + 1) ks lw)

    inside_ok : (end : ℕ) (vals : List ConstValue) (all : List Instr) (go : Option State) → HonestNext go → HonestNext (within end (at vals all) go)
    inside_ok end vals all go h = if_ok (nat_le end (length s.memory)) _ _ (λ e. h) (λ e. st)

    else_ok : (vals : List ConstValue) (all : List Instr) (ls : List BlockLabel) → Labels ls → HonestNext (leave_block ls (at vals all) (λ k. k.goes_on))
    else_ok vals all [] l = tt
    else_ok vals all (k ∷ ls) l = record { now = at_wary l.0; labels = l.1; callers = cw; status = st; pages = pg }

    end_ok : (vals : List ConstValue) (rest all : List Instr) → Wary rest → (ls : List BlockLabel) → Labels ls → HonestNext (at_end ls rest (at vals all))
    end_ok vals rest all w [] l = leaving keeps vals vals all
    end_ok vals rest all w (k ∷ ls) l = record { now = at_wary w; labels = l.1; callers = cw; status = st; pages = pg }

    entry_ok : (t : FuncType) (vals : List ConstValue) (all : List Instr) (go : Func → Option State) → ((g : Func) → Wary g.body.code → HonestNext (go g)) → (o : Option (Option ℕ)) → HonestNext (on_entry m t o (at vals all) go)
    entry_ok t vals all go h None = st
    entry_ok t vals all go h (Some None) = st
    entry_ok t vals all go h (Some (Some f)) = some_ok (func_of m f) _ (λ g e. if_ok (same_func_type t g.type) _ _ (λ z. h g (funcs f g e)) (λ z. st))

    op_ok : (b : Bool) (op : I32Op) (vals : List ConstValue) (rest all : List Instr) → Wary rest → HonestNext (operation b op rest (at vals all))
    op_ok true op [] rest all w = tt
    op_ok true op (I32 x ∷ vals) rest all w = on w
    op_ok true op (I64 x ∷ vals) rest all w = tt
    op_ok false op [] rest all w = tt
    op_ok false op (I64 y ∷ vals) rest all w = tt
    op_ok false op (I32 y ∷ []) rest all w = tt
    op_ok false op (I32 y ∷ I64 x ∷ vals) rest all w = tt
    op_ok false op (I32 y ∷ I32 x ∷ vals) rest all w = on w

    honest_act : (i : Instr) (vals : List ConstValue) (rest all : List Instr) → NotStatus i → Wary rest → HonestNext (act m granted i rest (at vals all))
    honest_act Unreachable vals rest all n w = st
    honest_act (If t) [] rest all n w = tt
    honest_act (If t) (I64 x ∷ vals) rest all n w = tt
    honest_act (If t) (I32 x ∷ vals) rest all n w = record { now = at_wary (arm_wary x w); labels = (wary_end 0 w, lw); callers = cw; status = st; pages = pg }
    honest_act (Loop t) vals rest all n w = record { now = at_wary w; labels = (w_cons {i = Loop t} tt w, lw); callers = cw; status = st; pages = pg }
    honest_act (Br x) vals rest all n w = jump_ok x vals all (slice_get ks x) refl
    honest_act Else vals rest all n w = else_ok vals all ks lw
    honest_act End vals rest all n w = end_ok vals rest all w ks lw
    honest_act (Call f) vals rest all n w = some_ok (func_of m f) _ (λ g e. called g vals vals rest all (funcs f g e) w)
    honest_act (CallIndirect index table) [] rest all n w = some_ok (slice_get m.types index) _ (λ t e. tt)
    honest_act (CallIndirect index table) (I64 x ∷ vals) rest all n w = some_ok (slice_get m.types index) _ (λ t e. tt)
    honest_act (CallIndirect index table) (I32 x ∷ vals) rest all n w = some_ok (slice_get m.types index) _ (λ t e. entry_ok t (I32 x ∷ vals) all (λ g. call (at (I32 x ∷ vals) all) g vals rest) (λ g wg. called g (I32 x ∷ vals) vals rest all wg w) (slice_get (table_of m) x))
    honest_act (ReturnCall f) vals rest all n w = some_ok (func_of m f) _ (λ g e. replaced g vals vals all (funcs f g e))
    honest_act (ReturnCallIndirect index table) [] rest all n w = some_ok (slice_get m.types index) _ (λ t e. tt)
    honest_act (ReturnCallIndirect index table) (I64 x ∷ vals) rest all n w = some_ok (slice_get m.types index) _ (λ t e. tt)
    honest_act (ReturnCallIndirect index table) (I32 x ∷ vals) rest all n w = some_ok (slice_get m.types index) _ (λ t e. entry_ok t (I32 x ∷ vals) all (λ g. tail_call (at (I32 x ∷ vals) all) g vals) (λ g wg. replaced g (I32 x ∷ vals) vals all wg) (slice_get (table_of m) x))
    honest_act (LocalGet x) vals rest all n w = some_ok (slice_get ls x) _ (λ y e. on w)
    honest_act (LocalSet x) [] rest all n w = tt
    honest_act (LocalSet x) (y ∷ vals) rest all n w = some_ok (slice_get ls x) _ (λ z e. on w)
    honest_act (LocalTee x) [] rest all n w = tt
    honest_act (LocalTee x) (y ∷ vals) rest all n w = some_ok (slice_get ls x) _ (λ z e. on w)
    honest_act (GlobalGet x) vals rest all n w = some_ok (slice_get s.globals x) _ (λ y e. on w)
    honest_act (GlobalSet x) [] rest all n w = tt
    honest_act (GlobalSet x) (y ∷ vals) rest all n w = some_ok (slice_get s.globals x) _ (λ z e. record { now = at_wary w; labels = lw; callers = cw; status = λ q. st (sym (other_global s.globals x y n) ∙ q); pages = pg })
    honest_act (I32Load a) [] rest all n w = tt
    honest_act (I32Load a) (I64 x ∷ vals) rest all n w = tt
    honest_act (I32Load a) (I32 x ∷ vals) rest all n w = inside_ok _ (I32 x ∷ vals) all _ (on w)
    honest_act (I32Store a) [] rest all n w = tt
    honest_act (I32Store a) (I64 y ∷ vals) rest all n w = tt
    honest_act (I32Store a) (I32 y ∷ []) rest all n w = tt
    honest_act (I32Store a) (I32 y ∷ I64 x ∷ vals) rest all n w = tt
    honest_act (I32Store a) (I32 y ∷ I32 x ∷ vals) rest all n w = inside_ok _ (I32 y ∷ I32 x ∷ vals) all _ (record { now = at_wary w; labels = lw; callers = cw; status = st; pages = pg })
    honest_act MemorySize vals rest all n w = on w
    honest_act (I32Const x) vals rest all n w = on w
    honest_act (Operation op) vals rest all n w = op_ok (is_unary op) op vals rest all w
    honest_act Nop vals rest all n w = absurd n
    honest_act (Block t) vals rest all n w = absurd n
    honest_act (BrIf x) vals rest all n w = absurd n
    honest_act (BrTable x xs) vals rest all n w = absurd n
    honest_act Return vals rest all n w = absurd n
    honest_act Drop vals rest all n w = absurd n
    honest_act (I32Load8U a) vals rest all n w = absurd n
    honest_act (I32Store8 a) vals rest all n w = absurd n
    honest_act MemoryGrow vals rest all n w = absurd n
    honest_act (I64Const x) vals rest all n w = absurd n

    honest_grow : (n : ℕ) (vals : List ConstValue) (rest all : List Instr) → n ≡ 4294967295 → Wary rest → HonestNext (act m granted MemoryGrow (I32Const n ∷ Operation op32.Eq ∷ GlobalSet 1 ∷ rest) (at vals all))
    honest_grow n [] rest all e w = tt
    honest_grow n (I64 x ∷ vals) rest all e w = tt
    honest_grow n (I32 x ∷ vals) rest all e w = if_ok (granted && nat_le (s.pages + x) (greatest_pages m.memory)) _ _ (λ t. record { now = at_grown e (λ q. absurd (omega arith)) w; labels = lw; callers = cw; status = st; pages = bound granted t })
        (λ t. record { now = at_grown e (λ q. refl) w; labels = lw; callers = cw; status = λ q. refl; pages = pg })
      where
        bound : (g : Bool) → (g && nat_le (s.pages + x) (greatest_pages m.memory)) ≡ true → s.pages + x ≤ 65536
        bound true t = omega (arith, leb-true (s.pages + x) (greatest_pages m.memory) t)
        bound false t = cc

    pub honest_step : (vals : List ConstValue) (rest : List Instr) → WaryAt s.refused vals rest → HonestNext (next m granted rest (at vals rest))
    honest_step vals rest (at_wary w_nil) = tt
    honest_step vals rest (at_wary (w_cons {i = i} {rest = after} n w)) = honest_act i vals after (i ∷ after) n w
    honest_step vals rest (at_wary (w_grow {n = n} {rest = after} e w)) = honest_grow n vals after (MemoryGrow ∷ I32Const n ∷ Operation op32.Eq ∷ GlobalSet 1 ∷ after) e w
    honest_step vals rest (at_grown e r w) = record { now = at_const e r w; labels = lw; callers = cw; status = st; pages = pg }
    honest_step vals rest (at_const {x = x} {n = n} e r w) = record { now = at_eq (λ q. r (eqb-true x n (flag_one (nat_eq x n) q) ∙ e)) w; labels = lw; callers = cw; status = st; pages = pg }
    honest_step vals rest (at_eq {y = y} {vals = below} {rest = after} r w) = some_ok (slice_get s.globals 1) _ (λ z e. record { now = at_wary w; labels = lw; callers = cw; status = λ e. r (this_global s.globals y e); pages = pg })

  stepped : (c : Conf) (t : State) → Honest c → step m granted c ≡ Some t → HonestState t
  stepped c t h e = subst HonestNext e (honest_step c.store c.current.keeps c.current.locals c.current.labels c.callers h.labels h.callers h.status h.pages c.current.operands c.current.rest h.now)

module _ (m : Parts) (funcs : (f : ℕ) (g : Func) → func_of m f ≡ Some g → Wary g.body.code) (small : greatest_pages m.memory ≤ 65536) where
  pub stays : (n : ℕ) (s t : State) → HonestState s → Reach m n s t → HonestState t
  stays zero s t h r = subst HonestState r h
  stays (suc n) s t h (At c, r, (granted, e)) = stepped m funcs small granted c t (stays n s (At c) h r) e
  stays (suc n) s t h (Over x z, r, (granted, e)) = absurd e
