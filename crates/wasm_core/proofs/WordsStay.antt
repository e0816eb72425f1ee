-- Each step keeps the numbers of a state within their types, and its memory whole pages of bytes.
use Rattle.std.proofs.Common.{◌≡◌, ℕ, zero, suc, ◌+◌, ◌-◌, ◌*◌, ◌^◌, ◌<◌, ◌≤◌, List, [], ◌∷◌, ◌++◌, length, map, take, drop, reverse, Option, Some, None, Bool, true, false, refl, ap, sym, ◌∙◌, subst, arith, length-append}
use Rattle.std.specs.Prelude.{slice_get, slice_set, if◌then◌else◌, nat_le, nat_eq, ◌&&◌, IfSome}
use Rattle.std.specs.Option.{option_and_then, unwrap_or}
use Rattle.std.proofs.lemmas.List.{length-replicate}
use Rattle.std.proofs.lemmas.Bool.{leb-true, and_parts}
use Rattle.std.proofs.lemmas.Option.{same_Some}
use Rattle.wasm_core.specs.declared.types.ValType.{ValType}
use Rattle.wasm_core.specs.declared.types.ValType.TheVariants as type
use Rattle.wasm_core.specs.declared.types.FuncType.{FuncType}
use Rattle.wasm_core.specs.declared.types.Limits.{Limits}
use Rattle.wasm_core.specs.declared.types.GlobalDef.{GlobalDef}
use Rattle.wasm_core.specs.declared.types.ConstValue.{ConstValue}
use Rattle.wasm_core.specs.declared.types.ConstValue.TheVariants.{I32, I64}
use Rattle.wasm_core.specs.declared.instrs.Body.{Body}
use Rattle.wasm_core.specs.declared.instrs.I32Op.{I32Op}
use Rattle.wasm_core.specs.declared.instrs.Instr.{Instr}
use Rattle.wasm_core.specs.declared.instrs.Instr.TheVariants.{Unreachable, Nop, Block, Loop, If, Else, End, Br, BrIf, BrTable, Return, Call, CallIndirect, ReturnCall, ReturnCallIndirect, Drop, LocalGet, LocalSet, LocalTee, GlobalGet, GlobalSet, I32Load, I32Load8U, I32Store, I32Store8, MemorySize, MemoryGrow, I32Const, I64Const, I32 as Operation}
use Rattle.wasm_core.specs.declared.ended.TrapKind.TheVariants as kind
use Rattle.wasm_core.specs.Parts.{Parts}
use Rattle.wasm_core.specs.Memory.{byte, word, put_byte, put_word, zeroed}
use Rattle.wasm_core.specs.Arithmetic.{is_unary, unary, binary}
use Rattle.wasm_core.specs.Instance.{Func, func_of, func_with, least, greatest_pages, table_of, zero_of}
use Rattle.wasm_core.specs.MachineStep.{Bracket, Opens, Divides, Closes, Plain, bracket, past_end, after_end, to_else, else_arm, BlockLabel, Frame, Store, Conf, State, At, Over, step, act, arm, branch, jump, leave, back, leave_block, at_end, call, tail_call, on_entry, call_entry, same_func_type, frame_of, has_value, enter, on_some, on_i32, going_on, storing, within, operation, unless_zero, trap, grown, StepsTo, Reach}
use Rattle.wasm_core.specs.ModuleTyping.{AreLimits}
use Rattle.wasm_core.specs.Runs.{first_store}
use Rattle.wasm_core.specs.HostStore.{start_in, main_start_in}
use Rattle.wasm_core.specs.ModuleCondition.{All as Each}
use Rattle.wasm_core.specs.Words.{IsWord, HasWord, IsByte, HasWords, IsLabel, IsFrame, IsStore, IsConf, IsWordy}
use Rattle.wasm_core.specs.Laws.{WordsStay, HostedWordsStay, FirstIsReady}
use Rattle.wasm_core.proofs.Small.{some_of}
use Rattle.wasm_core.proofs.Eaches.{each_append, each_reverse, each_take, each_drop, each_get, each_set, each_replicate, each_map, each_all}
use Rattle.wasm_core.proofs.Bits.{unary_small, binary_small, byte_small, word_small, put_byte_bytes, put_word_bytes, put_byte_length, put_word_length}
use Rattle.wasm_core.proofs.Gives.{Gives, gives_at, g_some, g_if, g_i32, g_one, g_taking}
use Rattle.wasm_core.proofs.Starting.{started_in, first_typed}

past_words : (b : Bracket) (d : ℕ) (go : ℕ → List Instr) (rest : List Instr) → ((e : ℕ) → Each HasWord (go e)) → Each HasWord rest → Each HasWord (past_end b d go rest)
past_words Opens d go rest h r = h (suc d)
past_words Divides d go rest h r = h d
past_words Closes zero go rest h r = r
past_words Closes (suc d) go rest h r = h d
past_words Plain d go rest h r = h d

after_words : (code : List Instr) (d : ℕ) → Each HasWord code → Each HasWord (after_end d code)
after_words [] d h = tt
after_words (i ∷ rest) d (p, h) = past_words (bracket i) d (λ e. after_end e rest) rest (λ e. after_words rest e h) h

to_words : (b : Bracket) (d : ℕ) (go : ℕ → List Instr) (i : Instr) (rest : List Instr) → ((e : ℕ) → Each HasWord (go e)) → HasWord i → Each HasWord rest → Each HasWord (to_else b d go i rest)
to_words Opens d go i rest h p r = h (suc d)
to_words Closes zero go i rest h p r = (p, r)
to_words Closes (suc d) go i rest h p r = h d
to_words Divides zero go i rest h p r = r
to_words Divides (suc d) go i rest h p r = h (suc d)
to_words Plain d go i rest h p r = h d

else_words : (code : List Instr) (d : ℕ) → Each HasWord code → Each HasWord (else_arm d code)
else_words [] d h = tt
else_words (i ∷ rest) d (p, h) = to_words (bracket i) d (λ e. else_arm e rest) i rest (λ e. else_words rest e h) p h

arm_words : (n : ℕ) (code : List Instr) → Each HasWord code → Each HasWord (arm n code)
arm_words zero code h = else_words code 0 h
arm_words (suc n) code h = h

body_of : (m : Parts) (f : ℕ) (g : Func) → func_of m f ≡ Some g → slice_get m.bodies f ≡ Some g.body
body_of m f g e =
    let (index, hf, e1) = some_of (λ index. func_with m f index) (slice_get m.funcs f) g e in
    let (t, ht, e2) = some_of (λ (t : FuncType). option_and_then (λ (b : Body). Some (record { type = t; body = b })) (slice_get m.bodies f)) (slice_get m.types index) g e1 in
    let (b, hb, e3) = some_of (λ (b : Body). Some (record { type = t; body = b })) (slice_get m.bodies f) g e2 in
    hb ∙ ap (λ (g : Func). Some g.body) (same_Some _ _ e3)

zero_word : (t : ValType) → IsWord (zero_of t)
zero_word type.I32 = omega arith
zero_word type.I64 = omega arith

bound_of : (o : Option ℕ) (min : ℕ) → IfSome o (λ most. (most ≤ 65536) × (min ≤ most)) → unwrap_or o 65536 ≤ 65536
bound_of None min h = omega arith
bound_of (Some most) min h = h.0

pages_of : (o : Option Limits) → IfSome o AreLimits → (greatest_pages o ≤ 65536) × (least o ≤ 65536)
pages_of None h = (omega arith, omega arith)
pages_of (Some l) h = (bound_of l.max l.min h.greatest, h.least)

pub zeroed_length : (n : ℕ) → length (zeroed n) ≡ 65536 * n
unfolding zeroed
zeroed_length n = length-replicate {A = ℕ} (65536 * n) 0

zeroed_bytes : (n : ℕ) → Each IsByte (zeroed n)
unfolding zeroed
zeroed_bytes n = each_replicate IsByte (65536 * n) 0 (omega arith)

module _ (m : Parts) (hm : HasWords m) (g : Bool) where
  goes_on : (c : Conf) → IsConf c → (vals : List ConstValue) (rest : List Instr) → Each IsWord vals → Each HasWord rest → Gives IsWordy (going_on c vals rest)
  goes_on c h vals rest v r = record {
    store = h.store;
    current = record { locals = h.current.locals; labels = h.current.labels; operands = v; rest = r };
    callers = h.callers;
  }

  stores : (c : Conf) → IsConf c → (store : Store) → IsStore store → (vals : List ConstValue) (rest : List Instr) → Each IsWord vals → Each HasWord rest → Gives IsWordy (storing c store vals rest)
  stores c h store s vals rest v r = record {
    store = s;
    current = record { locals = h.current.locals; labels = h.current.labels; operands = v; rest = r };
    callers = h.callers;
  }

  entered : (c : Conf) → IsConf c → (keeps : Bool) (on below_rest : List Instr) (below : List ConstValue) → Each HasWord on → Each IsWord below → Each HasWord below_rest → Gives IsWordy (enter keeps on below below_rest c)
  entered c h keeps on rest below o b r = record {
    store = h.store;
    current = record { locals = h.current.locals; labels = (record { goes_on = o; below = b }, h.current.labels); operands = tt; rest = r };
    callers = h.callers;
  }

  left : (c : Conf) → IsConf c → (ks : List BlockLabel) → Each IsLabel ks → (rest : BlockLabel → List Instr) → ((k : BlockLabel) → IsLabel k → Each HasWord (rest k)) → Gives IsWordy (leave_block ks c rest)
  left c h [] l rest r = tt
  left c h (k ∷ ks) (p, l) rest r = record {
    store = h.store;
    current = record { locals = h.current.locals; labels = l; operands = each_append IsWord c.current.operands k.below h.current.operands p.below; rest = r k p };
    callers = h.callers;
  }

  returned : (c : Conf) → IsConf c → (callers : List Frame) → Each IsFrame callers → (top : List ConstValue) → Each IsWord top → Gives IsWordy (back c callers top)
  returned c h [] fs top t = h.store
  returned c h (f ∷ callers) (p, fs) top t = record {
    store = h.store;
    current = record { locals = p.locals; labels = p.labels; operands = each_append IsWord top f.operands t p.operands; rest = p.rest };
    callers = fs;
  }

  leaves : (c : Conf) → IsConf c → (vals : List ConstValue) → Each IsWord vals → Gives IsWordy (leave c vals)
  leaves c h vals v = g_taking IsWordy c.current.keeps vals (λ top. back c c.callers top) v (λ top t. returned c h c.callers h.callers top t)

  at_ends : (c : Conf) → IsConf c → (ks : List BlockLabel) → Each IsLabel ks → (rest : List Instr) → Each HasWord rest → Gives IsWordy (at_end ks rest c)
  at_ends c h [] l rest r = leaves c h c.current.operands h.current.operands
  at_ends c h (k ∷ ks) l rest r = left c h (k ∷ ks) l (λ k. rest) (λ k p. r)

  jumps : (c : Conf) → IsConf c → (l : ℕ) (vals : List ConstValue) → Each IsWord vals → (o : Option BlockLabel) → slice_get c.current.labels l ≡ o → Gives IsWordy (jump c l vals o)
  jumps c h l vals v None e = g_if IsWordy (nat_eq l (length c.current.labels)) (leave c vals) None (λ t. leaves c h vals v) tt
  jumps c h l vals v (Some k) e =
      let p = each_get IsLabel c.current.labels l k h.current.labels e in
      g_taking IsWordy k.keeps vals (λ top. Some (At (record c { current = record c.current { labels = drop (l + 1) c.current.labels; operands = top ++ k.below; rest = k.goes_on } }))) v
      (λ top t. record {
        store = h.store;
        current = record { locals = h.current.locals; labels = each_drop IsLabel (l + 1) c.current.labels h.current.labels; operands = each_append IsWord top k.below t p.below; rest = p.goes_on };
        callers = h.callers;
      })

  branches : (c : Conf) → IsConf c → (l : ℕ) (vals : List ConstValue) → Each IsWord vals → Gives IsWordy (branch c l vals)
  branches c h l vals v = jumps c h l vals v (slice_get c.current.labels l) refl

  -- the frame of a function that is called
  called : (f : ℕ) (k : Func) → func_of m f ≡ Some k → (vals : List ConstValue) → Each IsWord vals → IsFrame (frame_of k vals)
  called f k e vals v = record {
    locals = each_append IsWord (reverse (take (length k.type.params) vals)) (map zero_of k.body.locals) (each_reverse IsWord (take (length k.type.params) vals) (each_take IsWord (length k.type.params) vals v)) (each_map IsWord zero_of k.body.locals
        (each_all (λ t. IsWord (zero_of t)) zero_word k.body.locals));
    labels = tt;
    operands = tt;
    rest = hm.bodies f k.body (body_of m f k e);
  }

  calls : (c : Conf) → IsConf c → (f : ℕ) (k : Func) → func_of m f ≡ Some k → (vals : List ConstValue) (rest : List Instr) → Each IsWord vals → Each HasWord rest → Gives IsWordy (call c k vals rest)
  calls c h f k e vals rest v r =
      g_if IsWordy (nat_le (length k.type.params) (length vals)) (Some (At (record { store = c.store; current = frame_of k vals; callers = record c.current { operands = drop (length k.type.params) vals; rest = rest } ∷ c.callers }))) None
      (λ t. record {
        store = h.store;
        current = called f k e vals v;
        callers = (record { locals = h.current.locals; labels = h.current.labels; operands = each_drop IsWord (length k.type.params) vals v; rest = r }, h.callers);
      }) tt

  tail_calls : (c : Conf) → IsConf c → (f : ℕ) (k : Func) → func_of m f ≡ Some k → (vals : List ConstValue) → Each IsWord vals → Gives IsWordy (tail_call c k vals)
  tail_calls c h f k e vals v =
      g_if IsWordy (nat_le (length k.type.params) (length vals)) (Some (At (record c { current = frame_of k vals }))) None (λ t. record { store = h.store; current = called f k e vals v; callers = h.callers }) tt

  entries : (c : Conf) → IsConf c → (t : FuncType) (o : Option (Option ℕ)) (go : Func → Option State) → ((f : ℕ) (k : Func) → func_of m f ≡ Some k → Gives IsWordy (go k)) → Gives IsWordy (on_entry m t o c go)
  entries c h t None go q = h.store
  entries c h t (Some None) go q = h.store
  entries c h t (Some (Some f)) go q =
      g_some IsWordy (func_of m f) (λ k. if same_func_type t k.type then go k else trap kind.IndirectType c)
      (λ k e. g_if IsWordy (same_func_type t k.type) (go k) (trap kind.IndirectType c) (λ s. q f k e) h.store)

  grows : (c : Conf) → IsConf c → (n : ℕ) (vals : List ConstValue) (rest : List Instr) → Each IsWord vals → Each HasWord rest → Gives IsWordy (grown m g n vals rest c)
  grows c h n vals rest v r =
      g_if IsWordy (g && nat_le (c.store.pages + n) (greatest_pages m.memory))
      (storing c (record c.store { pages = c.store.pages + n; memory = c.store.memory ++ zeroed n }) (I32 c.store.pages ∷ vals) rest)
      (storing c (record c.store { refused = true; by_choice = nat_le (c.store.pages + n) (greatest_pages m.memory) }) (I32 (2 ^ 32 - 1) ∷ vals) rest)
      (λ e.
      let le : c.store.pages + n ≤ greatest_pages m.memory = leb-true (c.store.pages + n) (greatest_pages m.memory) (and_parts g _ e).1 in
      let most = (pages_of m.memory hm.memory).0 in
      let few : c.store.pages ≤ 65536 = h.store.pages in
      stores c h (record c.store { pages = c.store.pages + n; memory = c.store.memory ++ zeroed n })
      (record {
        pages = omega (arith, le, most);
        size = omega (arith, length-append c.store.memory (zeroed n), zeroed_length n, h.store.size);
        bytes = each_append IsByte c.store.memory (zeroed n) h.store.bytes (zeroed_bytes n);
        globals = h.store.globals;
      })
      (I32 c.store.pages ∷ vals) rest (omega (arith, few), v) r)
      (stores c h (record c.store { refused = true; by_choice = nat_le (c.store.pages + n) (greatest_pages m.memory) }) (record { pages = h.store.pages; size = h.store.size; bytes = h.store.bytes; globals = h.store.globals }) (I32 (2 ^ 32 - 1) ∷ vals) rest (omega arith, v) r)

  accesses : (c : Conf) → IsConf c → (end : ℕ) (go : Option State) → Gives IsWordy go → Gives IsWordy (within end c go)
  accesses c h end go k = g_if IsWordy (nat_le end (length c.store.memory)) go (trap kind.OutOfBounds c) (λ e. k) h.store

  writes : (c : Conf) → IsConf c → (memory : List ℕ) → length memory ≡ length c.store.memory → Each IsByte memory → (vals : List ConstValue) (rest : List Instr) → Each IsWord vals → Each HasWord rest → Gives IsWordy (storing c (record c.store { memory = memory }) vals rest)
  writes c h memory len bytes vals rest v r =
      stores c h (record c.store { memory = memory }) (record { pages = h.store.pages; size = len ∙ h.store.size; bytes = bytes; globals = h.store.globals }) vals rest v r

  operates : (b : Bool) (op : I32Op) (rest : List Instr) (c : Conf) → IsConf c → Each HasWord rest → Gives IsWordy (operation b op rest c)
  operates true op rest c h r =
      g_i32 IsWordy c.current.operands (λ x operands. going_on c (I32 (unary op x) ∷ operands) rest) h.current.operands
      (λ x vals p v. goes_on c h (I32 (unary op x) ∷ vals) rest (unary_small op x, v) r)
  operates false op rest c h r =
      g_i32 IsWordy c.current.operands (λ y more. on_i32 more (λ x operands. going_on c (I32 (binary op x y) ∷ operands) rest)) h.current.operands
      (λ y more q w. g_i32 IsWordy more (λ x operands. going_on c (I32 (binary op x y) ∷ operands) rest) w
      (λ x vals p v. goes_on c h (I32 (binary op x y) ∷ vals) rest (binary_small op x y p q, v) r))

  zero_or : (n : ℕ) (s t : Option State) → Gives IsWordy s → Gives IsWordy t → Gives IsWordy (unless_zero n s t)
  zero_or zero s t a b = b
  zero_or (suc n) s t a b = a

  acts : (i : Instr) (rest : List Instr) (c : Conf) → IsConf c → HasWord i → Each HasWord rest → Gives IsWordy (act m g i rest c)
  acts Unreachable rest c h p r = h.store
  acts Nop rest c h p r = goes_on c h c.current.operands rest h.current.operands r
  acts (Block t) rest c h p r = entered c h (has_value t) (after_end 0 rest) rest c.current.operands (after_words rest 0 r) h.current.operands r
  acts (Loop t) rest c h p r = entered c h false (Loop t ∷ rest) rest c.current.operands (tt, r) h.current.operands r
  acts (If t) rest c h p r =
      g_i32 IsWordy c.current.operands (λ x operands. enter (has_value t) (after_end 0 rest) operands (arm x rest) c) h.current.operands
      (λ x vals q v. entered c h (has_value t) (after_end 0 rest) (arm x rest) vals (after_words rest 0 r) v (arm_words x rest r))
  acts Else rest c h p r = left c h c.current.labels h.current.labels (λ k. k.goes_on) (λ k q. q.goes_on)
  acts End rest c h p r = at_ends c h c.current.labels h.current.labels rest r
  acts (Br l) rest c h p r = branches c h l c.current.operands h.current.operands
  acts (BrIf l) rest c h p r =
      g_i32 IsWordy c.current.operands (λ x operands. unless_zero x (branch c l operands) (going_on c operands rest)) h.current.operands
      (λ x vals q v. zero_or x (branch c l vals) (going_on c vals rest) (branches c h l vals v) (goes_on c h vals rest v r))
  acts (BrTable l ls) rest c h p r =
      g_i32 IsWordy c.current.operands (λ x operands. branch c (unwrap_or (slice_get ls x) l) operands) h.current.operands (λ x vals q v. branches c h (unwrap_or (slice_get ls x) l) vals v)
  acts Return rest c h p r = leaves c h c.current.operands h.current.operands
  acts (Call f) rest c h p r = g_some IsWordy (func_of m f) (λ k. call c k c.current.operands rest) (λ k e. calls c h f k e c.current.operands rest h.current.operands r)
  acts (CallIndirect index table) rest c h p r =
      g_some IsWordy (slice_get m.types index) (λ t. on_i32 c.current.operands (λ x operands. call_entry m t (slice_get (table_of m) x) operands rest c))
      (λ t e. g_i32 IsWordy c.current.operands (λ x operands. call_entry m t (slice_get (table_of m) x) operands rest c) h.current.operands
      (λ x vals q v. entries c h t (slice_get (table_of m) x) (λ k. call c k vals rest) (λ f k e. calls c h f k e vals rest v r)))
  acts (ReturnCall f) rest c h p r = g_some IsWordy (func_of m f) (λ k. tail_call c k c.current.operands) (λ k e. tail_calls c h f k e c.current.operands h.current.operands)
  acts (ReturnCallIndirect index table) rest c h p r =
      g_some IsWordy (slice_get m.types index) (λ t. on_i32 c.current.operands (λ x operands. on_entry m t (slice_get (table_of m) x) c (λ k. tail_call c k operands)))
      (λ t e. g_i32 IsWordy c.current.operands (λ x operands. on_entry m t (slice_get (table_of m) x) c (λ k. tail_call c k operands)) h.current.operands
      (λ x vals q v. entries c h t (slice_get (table_of m) x) (λ k. tail_call c k vals) (λ f k e. tail_calls c h f k e vals v)))
  acts Drop rest c h p r = g_one IsWordy c.current.operands (λ x operands. going_on c operands rest) h.current.operands (λ x vals q v. goes_on c h vals rest v r)
  acts (LocalGet x) rest c h p r =
      g_some IsWordy (slice_get c.current.locals x) (λ v. going_on c (v ∷ c.current.operands) rest)
      (λ y e. goes_on c h (y ∷ c.current.operands) rest (each_get IsWord c.current.locals x y h.current.locals e, h.current.operands) r)
  acts (LocalSet x) rest c h p r =
      g_one IsWordy c.current.operands (λ v operands. on_some (slice_get c.current.locals x) (λ old. Some (At (record c { current = record c.current { locals = slice_set c.current.locals x v; operands = operands; rest = rest } })))) h.current.operands
      (λ y vals q v. g_some IsWordy (slice_get c.current.locals x) (λ old. Some (At (record c { current = record c.current { locals = slice_set c.current.locals x y; operands = vals; rest = rest } })))
      (λ old e. record { store = h.store; current = record { locals = each_set IsWord c.current.locals x y h.current.locals q; labels = h.current.labels; operands = v; rest = r }; callers = h.callers }))
  acts (LocalTee x) rest c h p r =
      g_one IsWordy c.current.operands (λ v operands. on_some (slice_get c.current.locals x) (λ old. Some (At (record c { current = record c.current { locals = slice_set c.current.locals x v; operands = v ∷ operands; rest = rest } })))) h.current.operands
      (λ y vals q v. g_some IsWordy (slice_get c.current.locals x) (λ old. Some (At (record c { current = record c.current { locals = slice_set c.current.locals x y; operands = y ∷ vals; rest = rest } })))
      (λ old e. record { store = h.store; current = record { locals = each_set IsWord c.current.locals x y h.current.locals q; labels = h.current.labels; operands = (q, v); rest = r }; callers = h.callers }))
  acts (GlobalGet x) rest c h p r =
      g_some IsWordy (slice_get c.store.globals x) (λ v. going_on c (v ∷ c.current.operands) rest)
      (λ y e. goes_on c h (y ∷ c.current.operands) rest (each_get IsWord c.store.globals x y h.store.globals e, h.current.operands) r)
  acts (GlobalSet x) rest c h p r =
      g_one IsWordy c.current.operands (λ v operands. on_some (slice_get c.store.globals x) (λ old. storing c (record c.store { globals = slice_set c.store.globals x v }) operands rest)) h.current.operands
      (λ y vals q v. g_some IsWordy (slice_get c.store.globals x) (λ old. storing c (record c.store { globals = slice_set c.store.globals x y }) vals rest)
      (λ old e. stores c h (record c.store { globals = slice_set c.store.globals x y }) (record { pages = h.store.pages; size = h.store.size; bytes = h.store.bytes; globals = each_set IsWord c.store.globals x y h.store.globals q }) vals rest v r))
  acts (I32Load a) rest c h p r =
      g_i32 IsWordy c.current.operands (λ i operands. within (i + a.offset + 4) c (going_on c (I32 (word c.store.memory (i + a.offset)) ∷ operands) rest)) h.current.operands
      (λ i vals q v. accesses c h (i + a.offset + 4) (going_on c (I32 (word c.store.memory (i + a.offset)) ∷ vals) rest) (goes_on c h (I32 (word c.store.memory (i + a.offset)) ∷ vals) rest (word_small c.store.memory (i + a.offset) h.store.bytes, v) r))
  acts (I32Load8U a) rest c h p r =
      g_i32 IsWordy c.current.operands (λ i operands. within (i + a.offset + 1) c (going_on c (I32 (byte c.store.memory (i + a.offset)) ∷ operands) rest)) h.current.operands
      (λ i vals q v.
      let small : byte c.store.memory (i + a.offset) < 256 = byte_small c.store.memory (i + a.offset) h.store.bytes in
      accesses c h (i + a.offset + 1) (going_on c (I32 (byte c.store.memory (i + a.offset)) ∷ vals) rest) (goes_on c h (I32 (byte c.store.memory (i + a.offset)) ∷ vals) rest (omega (arith, small), v) r))
  acts (I32Store a) rest c h p r =
      g_i32 IsWordy c.current.operands (λ n more. on_i32 more (λ i operands. within (i + a.offset + 4) c (storing c (record c.store { memory = put_word c.store.memory (i + a.offset) n }) operands rest))) h.current.operands
      (λ n more qn w. g_i32 IsWordy more (λ i operands. within (i + a.offset + 4) c (storing c (record c.store { memory = put_word c.store.memory (i + a.offset) n }) operands rest)) w
      (λ i vals q v. accesses c h (i + a.offset + 4) (storing c (record c.store { memory = put_word c.store.memory (i + a.offset) n }) vals rest)
      (writes c h (put_word c.store.memory (i + a.offset) n) (put_word_length c.store.memory (i + a.offset) n) (put_word_bytes c.store.memory (i + a.offset) n h.store.bytes) vals rest v r)))
  acts (I32Store8 a) rest c h p r =
      g_i32 IsWordy c.current.operands (λ n more. on_i32 more (λ i operands. within (i + a.offset + 1) c (storing c (record c.store { memory = put_byte c.store.memory (i + a.offset) n }) operands rest))) h.current.operands
      (λ n more qn w. g_i32 IsWordy more (λ i operands. within (i + a.offset + 1) c (storing c (record c.store { memory = put_byte c.store.memory (i + a.offset) n }) operands rest)) w
      (λ i vals q v. accesses c h (i + a.offset + 1) (storing c (record c.store { memory = put_byte c.store.memory (i + a.offset) n }) vals rest)
      (writes c h (put_byte c.store.memory (i + a.offset) n) (put_byte_length c.store.memory (i + a.offset) n) (put_byte_bytes c.store.memory (i + a.offset) n h.store.bytes) vals rest v r)))
  acts MemorySize rest c h p r =
      let few : c.store.pages ≤ 65536 = h.store.pages in goes_on c h (I32 c.store.pages ∷ c.current.operands) rest (omega (arith, few), h.current.operands) r
  acts MemoryGrow rest c h p r =
      g_i32 IsWordy c.current.operands (λ n operands. grown m g n operands rest c) h.current.operands (λ n vals q v. grows c h n vals rest v r)
  acts (I32Const n) rest c h p r = goes_on c h (I32 n ∷ c.current.operands) rest (p, h.current.operands) r
  acts (I64Const n) rest c h p r = goes_on c h (I64 n ∷ c.current.operands) rest (p, h.current.operands) r
  acts (Operation op) rest c h p r = operates (is_unary op) op rest c h r

  next_words : (c : Conf) → IsConf c → (code : List Instr) → Each HasWord code → Gives IsWordy (step m g (record c { current = record c.current { rest = code } }))
  next_words c h [] r = tt
  next_words c h (i ∷ rest) (p, r) =
      acts i rest (record c { current = record c.current { rest = i ∷ rest } }) (record { store = h.store; current = record { locals = h.current.locals; labels = h.current.labels; operands = h.current.operands; rest = (p, r) }; callers = h.callers }) p r

  pub step_words : (c : Conf) → IsConf c → Gives IsWordy (step m g c)
  step_words c h = next_words c h c.current.rest h.current.rest

first_words : (gs : List GlobalDef) → Each (λ (g : GlobalDef). IsWord g.init) gs → Each IsWord (map (λ (g : GlobalDef). g.init) gs)
first_words gs h = each_map IsWord (λ (g : GlobalDef). g.init) gs h

first_store_words : (m : Parts) → HasWords m → IsStore (first_store m)
first_store_words m hm = record {
  pages = (pages_of m.memory hm.memory).1;
  size = zeroed_length (least m.memory);
  bytes = zeroed_bytes (least m.memory);
  globals = first_words m.globals hm.globals;
}

start_words : (m : Parts) → HasWords m → (s : Store) → IsStore s → (f : ℕ) (g : Func) → func_of m f ≡ Some g → IsWordy (start_in s g)
start_words m hm s hs f g e = record {
  store = hs;
  current = record {
    locals = each_append IsWord (reverse (take (length g.type.params) [])) (map zero_of g.body.locals) (each_reverse IsWord (take (length g.type.params) []) (each_take IsWord (length g.type.params) [] tt)) (each_map IsWord zero_of g.body.locals
        (each_all (λ t. IsWord (zero_of t)) zero_word g.body.locals));
    labels = tt;
    operands = tt;
    rest = hm.bodies f g.body (body_of m f g e);
  };
  callers = tt;
}

word_step : (m : Parts) → HasWords m → (s t : State) (granted : Bool) → IsWordy s → StepsTo m granted s t → IsWordy t
word_step m hm (At c) t granted h e = gives_at IsWordy (step m granted c) t (step_words m hm granted c h) e
word_step m hm (Over end store) t granted h e = absurd e

word_reach : (m : Parts) → HasWords m → (k : ℕ) (s t : State) → IsWordy s → Reach m k s t → IsWordy t
word_reach m hm zero s t h r = subst IsWordy r h
word_reach m hm (suc k) s t h (mid, r, (granted, e)) = word_step m hm mid t granted (word_reach m hm k s mid h r) e

words_from : (m : Parts) (st : Store) (first : State) (k : ℕ) (t : State) → HasWords m → IsStore st → main_start_in m st ≡ Some first → Reach m k first t → IsWordy t
words_from m st first k t hm hs e r =
    let s = started_in m st first e in word_reach m hm k first t (subst IsWordy (sym s.starts) (start_words m hm st hs s.index s.func s.is)) r

pub words_stay : WordsStay
words_stay m first k t hm e r = words_from m (first_store m) first k t hm (first_store_words m hm) e r

pub hosted_words_stay : HostedWordsStay
hosted_words_stay m s first k t hm ready e r = words_from m s first k t hm ready.words e r

pub first_is_ready : FirstIsReady
first_is_ready m valid hm = record { typed = first_typed m valid; words = first_store_words m hm }
