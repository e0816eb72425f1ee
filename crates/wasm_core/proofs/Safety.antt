-- In a valid module each state of a run has a step, and the step leads to such a state again.
use Rattle.std.proofs.Common.{◌≡◌, ℕ, zero, suc, ◌+◌, ◌-◌, ◌^◌, ◌≤◌, List, [], ◌∷◌, ◌++◌, length, map, take, drop, reverse, Option, Some, None, Bool, true, false, refl, ap, sym, ◌∙◌, subst, append_assoc, arith, add-one, eq-eqb, le-leb, length-append}
use Rattle.std.specs.Prelude.{slice_get, slice_set, is_some, if◌then◌else◌, nat_le, nat_eq, ◌&&◌}
use Rattle.std.specs.Option.{option_map, option_to_list, unwrap_or}
use Rattle.std.proofs.lemmas.List.{length-reverse, length-map, append-nil, reverse-reverse, map-append}
use Rattle.std.proofs.lemmas.Option.{slice_get-map, same_Some}
use Rattle.wasm_core.specs.declared.types.ValType.{ValType}
use Rattle.wasm_core.specs.declared.types.ValType.TheVariants as type
use Rattle.wasm_core.specs.declared.types.FuncType.{FuncType}
use Rattle.wasm_core.specs.declared.types.GlobalDef.{GlobalDef}
use Rattle.wasm_core.specs.declared.types.ConstValue.{ConstValue}
use Rattle.wasm_core.specs.declared.types.ConstValue.TheVariants.{I32, I64}
use Rattle.wasm_core.specs.declared.instrs.BlockType.{BlockType}
use Rattle.wasm_core.specs.declared.instrs.BlockType.TheVariants.{Empty, Value}
use Rattle.wasm_core.specs.declared.instrs.Instr.{Instr}
use Rattle.wasm_core.specs.declared.instrs.Instr.TheVariants.{Unreachable, Nop, Block, Loop, If, Else, End, Br, BrIf, BrTable, Return, Call, CallIndirect, ReturnCall, ReturnCallIndirect, Drop, LocalGet, LocalSet, LocalTee, GlobalGet, GlobalSet, I32Load, I32Load8U, I32Store, I32Store8, MemorySize, MemoryGrow, I32Const, I64Const, I32 as Operation}
use Rattle.wasm_core.specs.declared.ended.Ended.TheVariants.{Returned, Trapped}
use Rattle.wasm_core.specs.declared.ended.TrapKind.{TrapKind}
use Rattle.wasm_core.specs.declared.ended.TrapKind.TheVariants as kind
use Rattle.wasm_core.specs.Parts.{Parts}
use Rattle.wasm_core.specs.Memory.{byte, word, put_byte, put_word, zeroed}
use Rattle.wasm_core.specs.Arithmetic.{is_unary, unary, binary}
use Rattle.wasm_core.specs.Instance.{Func, greatest_pages, table_of, zero_of}
use Rattle.wasm_core.specs.MachineStep.{BlockLabel, Frame, Store, Conf, State, At, Over, step, branch, jump, leave, back, taking, call, tail_call, on_entry, frame_of, has_value, after_end, else_arm, on_some, going_on, storing, same_func_type, operation, trap}
use Rattle.wasm_core.specs.ModuleTyping.{OperandTypes, Operands, OperandType, Of, known, Match, Effect, Typed, done, plain, unreachable, block, loop, one_arm, two_arms, br, br_if, br_table, return, effect, tail_effect, left_by, results_of, func_type, calling, calling_entry, getting, setting, keeping, accessing, operating, when, Reaches, TypedBody, IsValid}
use Rattle.wasm_core.specs.ModuleTyping as typing
use Rattle.wasm_core.specs.Safe.{is_i32, is_i64, HaveTypes, no_values, values, Takes, takes_none, takes_one, Goes, goes, Tail, fin, by_end, by_else, Runs, Chain, Good, GoodState, global_types}
use Rattle.wasm_core.proofs.Small.{no, some_of, map_of, when_of}
use Rattle.wasm_core.proofs.Values.{have_append, have_length, have_matched, have_all, have_front, have_rest, have_reverse, known_reverse, have_get, have_set, known_at, zeros_have, popped, popped_any, popped_test}
use Rattle.wasm_core.proofs.Balance.{skips, skips_else}
use Rattle.wasm_core.proofs.Functions.{found_in, found_typed, entry_there, func_type_eq}

-- there is a step, to a state that is again good
abbrev Sound : Parts → Option State → Type 0
Sound m o = (s : State) × (o ≡ Some s) × GoodState m s

left_takes : (b : BlockType) → Takes (has_value b) (left_by b)
left_takes Empty = takes_none
left_takes (Value t) = takes_one

pub result_takes : (r : Option ValType) → Takes (is_some r) (option_to_list r)
result_takes None = takes_none
result_takes (Some t) = takes_one

module _ (m : Parts) where
  sound_back : (c : Conf) (callers : List Frame) (res : OperandTypes) (top : List ConstValue) → HaveTypes top (known res) → Chain m callers res → HaveTypes c.store.globals (global_types m) → Sound m (back c callers top)
  sound_back c [] res top lt chain gl = (Over Returned c.store, refl, gl)
  sound_back c (a ∷ callers) res top lt (ls, rs, runs, chain) gl = (
    At (record c { current = record a { operands = top ++ a.operands }; callers = callers }),
    refl,
    record {
      ls = ls;
      rs = rs;
      chain = chain;
      globals = gl;
      runs = record {
        labels = runs.labels;
        ts = known res ++ runs.ts;
        keeps = runs.keeps;
        locals = runs.locals;
        operands = have_append lt runs.operands;
        goes_on = runs.goes_on;
      };
    },
  )

  either : (b : Bool) {s t : Option State} → Sound m s → Sound m t → Sound m (if b then s else t)
  either true gs gt = gs
  either false gs gt = gt

  sound_taking : (keeps : Bool) (lt : OperandTypes) (ts : Operands) (vals : List ConstValue) (go : List ConstValue → Option State) → Takes keeps lt → HaveTypes vals (known lt ++ ts) → ((top : List ConstValue) → HaveTypes top (known lt) → Sound m (go top)) → Sound m (taking keeps vals go)
  sound_taking keeps lt ts vals go takes_none h s = s [] no_values
  sound_taking keeps lt ts vals go takes_one (values {v = x} t h) s = s (x ∷ []) (values t no_values)

-- where a branch goes: out of the function, or on after an open block
data Target (m : Parts) (ls rs : OperandTypes) (ks : List BlockLabel) (labels : List OperandTypes) (l : ℕ) (lt : OperandTypes) : Type 0 where
  outside : slice_get ks l ≡ None → l ≡ length ks → lt ≡ rs → Target m ls rs ks labels l lt
  to_block : (k : BlockLabel) (below : Operands) → slice_get ks l ≡ Some k → Takes k.keeps lt → HaveTypes k.below below → Goes m ls rs (drop (suc l) ks) (drop (suc l) labels) (known lt ++ below) k.goes_on → Target m ls rs ks labels l lt

module _ (m : Parts) (ls rs : OperandTypes) where
  shift : {k : BlockLabel} {ks : List BlockLabel} {first lt : OperandTypes} {labels : List OperandTypes} {l : ℕ} → Target m ls rs ks labels l lt → Target m ls rs (k ∷ ks) (first ∷ labels) (suc l) lt
  shift (outside n e r) = outside n (ap suc e) r
  shift (to_block k below e tk lb g) = to_block k below e tk lb g

  target : {ks : List BlockLabel} {labels : List OperandTypes} {us : Operands} {lt : OperandTypes} {tail : List Instr} → Tail m ls rs ks labels us tail → (l : ℕ) → slice_get labels l ≡ Some lt → Target m ls rs ks labels l lt
  target (fin k) zero e = outside refl refl (sym (same_Some _ _ e))
  target (fin k) (suc l) e = no e
  target (by_end {k = k} {ks = ks} {labels = labels} below tk lb gs ma gb) zero e = to_block k below refl (subst (Takes k.keeps) (same_Some _ _ e) tk) lb (subst (λ t. Goes m ls rs ks labels (known t ++ below) k.goes_on) (same_Some _ _ e) gs)
  target (by_else {k = k} {ks = ks} {labels = labels} below tk lb gs ma) zero e = to_block k below refl (subst (Takes k.keeps) (same_Some _ _ e) tk) lb (subst (λ t. Goes m ls rs ks labels (known t ++ below) k.goes_on) (same_Some _ _ e) gs)
  target (by_end below tk lb gs ma (goes t tail)) (suc l) e = shift (target tail l e)
  target (by_else below tk lb (goes t tail) ma) (suc l) e = shift (target tail l e)

-- one function that runs, with those that wait for it
module _ (m : Parts) (valid : IsValid m) (g : Bool) (store : Store) (gl : HaveTypes store.globals (global_types m)) (callers : List Frame) (ls rs : OperandTypes) (chain : Chain m callers rs) (keeps : Bool) (tk : Takes keeps rs) (locals : List ConstValue) (ll : HaveTypes locals (known ls)) where
  abbrev conf : List BlockLabel → List ConstValue → List Instr → Conf
  conf ks vals code = record { store = store; current = record { keeps = keeps; locals = locals; labels = ks; operands = vals; rest = code }; callers = callers }

  -- the function goes on, with this store and these locals
  on_with : (store' : Store) (locals' : List ConstValue) → HaveTypes store'.globals (global_types m) → HaveTypes locals' (known ls) → {ks : List BlockLabel} {labels : List OperandTypes} {code : List Instr} (ts : Operands) (vals : List
      ConstValue) → HaveTypes vals ts → Goes m ls rs ks labels ts code → Sound m (Some (At (record { store = store'; current = record { keeps = keeps; locals = locals'; labels = ks; operands = vals; rest = code }; callers = callers })))
  on_with store' locals' gs hl {labels = labels} ts vals lv go = (
    At _,
    refl,
    record {
      ls = ls;
      rs = rs;
      chain = chain;
      globals = gs;
      runs = record { labels = labels; ts = ts; keeps = tk; locals = hl; operands = lv; goes_on = go };
    },
  )

  on : {ks : List BlockLabel} {labels : List OperandTypes} {code : List Instr} (ts : Operands) (vals : List ConstValue) → HaveTypes vals ts → Goes m ls rs ks labels ts code → Sound m (Some (At (conf ks vals code)))
  on ts vals lv go = on_with store locals gl ll ts vals lv go

  sound_out : (ks : List BlockLabel) (before vals : List ConstValue) (rest : List Instr) (ts : Operands) → HaveTypes vals (known rs ++ ts) → Sound m (leave (conf ks before rest) vals)
  sound_out ks before vals rest ts lv =
      sound_taking m keeps rs ts vals (back (conf ks before rest) callers) tk lv (λ top lt. sound_back m (conf ks before rest) callers rs top lt chain gl)

  sound_branch : (ks : List BlockLabel) (labels : List OperandTypes) (before vals : List ConstValue) (rest : List Instr) (ts : Operands) (lt : OperandTypes) (l : ℕ) → HaveTypes vals (known lt ++ ts) → Target m ls rs ks labels l lt → Sound m (branch (conf ks before rest) l vals)
  sound_branch ks labels before vals rest ts lt l lv (outside none len is) =
      let c = conf ks before rest in
      let e = ap (jump c l vals) none ∙ ap (λ (b : Bool). if b then leave c vals else None) (eq-eqb l (length ks) len) in
      subst (Sound m) (sym e) (sound_out ks before vals rest ts (subst (λ (t : OperandTypes). HaveTypes vals (known t ++ ts)) is lv))
  sound_branch ks labels before vals rest ts lt l lv (to_block k below some t lb go) =
      let c = conf ks before rest in
      let e = ap (jump c l vals) some in
      subst (Sound m) (sym e) (sound_taking m k.keeps lt ts vals (λ top. Some (At (conf (drop (l + 1) ks) (top ++ k.below) k.goes_on))) t lv
      (λ top ltop. on {labels = drop (suc l) labels} (known lt ++ below) (top ++ k.below) (have_append ltop lb) (rw add-one go)))

  -- a block is entered: its inside is typed, and what comes after its end goes on well
  inner : {ks : List BlockLabel} {labels : List OperandTypes} {us : Operands} (tail : List Instr) (k : BlockLabel) (ts : Operands) (lt ends : OperandTypes) (body rest : List Instr) → Takes k.keeps lt → HaveTypes k.below ts → Goes m ls rs ks labels (known lt ++ ts) k.goes_on → Typed m ls rs (lt ∷
      labels) [] body us → Match us ends → Goes m ls rs ks labels (known ends ++ ts) (rest ++ tail) → Goes m ls rs (k ∷ ks) (lt ∷ labels) [] ((body ++ End ∷ rest) ++ tail)
  inner {ks = ks} {labels = labels} tail k ts lt ends body rest t lb gs typed ma go =
      subst (Goes m ls rs (k ∷ ks) (lt ∷ labels) []) (sym (append_assoc body (End ∷ rest) tail)) (goes typed (by_end ts t lb gs ma go))

  -- after the end of a block
  past : {labels : List OperandTypes} {ts us : Operands} (body rest tail : List Instr) → Typed m ls rs labels ts body us → after_end 0 ((body ++ End ∷ rest) ++ tail) ≡ rest ++ tail
  past body rest tail t = ap (after_end 0) (append_assoc body (End ∷ rest) tail) ∙ skips m ls rs t 0 (End ∷ (rest ++ tail))

  past_else : {labels : List OperandTypes} {ts us : Operands} (body rest tail : List Instr) → Typed m ls rs labels ts body us → else_arm 0 ((body ++ End ∷ rest) ++ tail) ≡ End ∷ (rest ++ tail)
  past_else body rest tail t = ap (else_arm 0) (append_assoc body (End ∷ rest) tail) ∙ skips_else m ls rs t 0 (End ∷ (rest ++ tail))

  sound_block : {ks : List BlockLabel} {labels : List OperandTypes} {ends us : Operands} {tail : List Instr} (ts : Operands) (vals : List ConstValue) (b : BlockType) (body rest : List Instr) → HaveTypes vals ts → Typed m ls rs (left_by b ∷ labels) [] body ends → Match ends (left_by
      b) → Typed m ls rs labels (known (left_by b) ++ ts) rest us → Tail m ls rs ks labels us tail → Sound m (step m g (conf ks vals (Block b ∷ ((body ++ End ∷ rest) ++ tail))))
  sound_block {ks = ks} {labels = labels} {tail = tail} ts vals b body rest lv tb ma td tl =
      let k : BlockLabel = record { keeps = has_value b; goes_on = after_end 0 ((body ++ End ∷ rest) ++ tail); below = vals } in
      let on_after = subst (Goes m ls rs ks labels (known (left_by b) ++ ts)) (sym (past body rest tail tb)) (goes td tl) in
      on [] [] no_values (inner tail k ts (left_by b) (left_by b) body rest (left_takes b) lv on_after tb ma (goes td tl))

  sound_loop : {ks : List BlockLabel} {labels : List OperandTypes} {ends us : Operands} {tail : List Instr} (ts : Operands) (vals : List ConstValue) (b : BlockType) (body rest : List Instr) → HaveTypes vals ts → Typed m ls rs ([] ∷ labels) [] body ends → Match ends (left_by
      b) → Typed m ls rs labels (known (left_by b) ++ ts) rest us → Tail m ls rs ks labels us tail → Sound m (step m g (conf ks vals (Loop b ∷ ((body ++ End ∷ rest) ++ tail))))
  sound_loop {ks = ks} {labels = labels} {tail = tail} ts vals b body rest lv tb ma td tl =
      let k : BlockLabel = record { keeps = false; goes_on = Loop b ∷ ((body ++ End ∷ rest) ++ tail); below = vals } in
      on [] [] no_values (inner tail k ts [] (left_by b) body rest takes_none lv (goes (loop tb ma td) tl) tb ma (goes td tl))

  sound_one_arm : {ks : List BlockLabel} {labels : List OperandTypes} {us : Operands} {tail : List Instr} (ts : Operands) (x : ℕ) (vals : List ConstValue) (body rest : List Instr) → HaveTypes vals ts → Typed m ls rs ([] ∷
      labels) [] body [] → Typed m ls rs labels ts rest us → Tail m ls rs ks labels us tail → Sound m (step m g (conf ks (I32 x ∷ vals) (If Empty ∷ ((body ++ End ∷ rest) ++ tail))))
  sound_one_arm {ks = ks} {labels = labels} {tail = tail} ts zero vals body rest lv tb td tl =
      let k : BlockLabel = record { keeps = false; goes_on = after_end 0 ((body ++ End ∷ rest) ++ tail); below = vals } in
      let on_after = subst (Goes m ls rs ks labels ts) (sym (past body rest tail tb)) (goes td tl) in
      on {labels = [] ∷ labels} [] [] no_values (subst (Goes m ls rs (k ∷ ks) ([] ∷ labels) []) (sym (past_else body rest tail tb)) (goes done (by_end ts takes_none lv on_after typing.match_none (goes td tl))))
  sound_one_arm {ks = ks} {labels = labels} {tail = tail} ts (suc x) vals body rest lv tb td tl =
      let k : BlockLabel = record { keeps = false; goes_on = after_end 0 ((body ++ End ∷ rest) ++ tail); below = vals } in
      let on_after = subst (Goes m ls rs ks labels ts) (sym (past body rest tail tb)) (goes td tl) in
      on [] [] no_values (inner tail k ts [] [] body rest takes_none lv on_after tb typing.match_none (goes td tl))

  sound_two_arms : {ks : List BlockLabel} {labels : List OperandTypes} {ends other_ends us : Operands} {tail : List Instr} (ts : Operands) (x : ℕ) (vals : List ConstValue) (b : BlockType) (first second rest : List Instr) → HaveTypes vals ts → Typed m ls rs (left_by b ∷
      labels) [] first ends → Match ends (left_by b) → Typed m ls rs (left_by b ∷ labels) [] second other_ends → Match other_ends (left_by b) → Typed m ls rs labels (known (left_by b) ++ ts) rest us → Tail m ls rs ks labels us tail → Sound m (step m g
      (conf ks (I32 x ∷ vals) (If b ∷ ((first ++ Else ∷ (second ++ End ∷ rest)) ++ tail))))
  sound_two_arms {ks = ks} {labels = labels} {tail = tail} ts x vals b first second rest lv ta ma tb mb td tl = arm x
    where
      split : (first ++ Else ∷ (second ++ End ∷ rest)) ++ tail ≡ first ++ (Else ∷ ((second ++ End ∷ rest) ++ tail))
      split = append_assoc first (Else ∷ (second ++ End ∷ rest)) tail

      ends : after_end 0 ((first ++ Else ∷ (second ++ End ∷ rest)) ++ tail) ≡ rest ++ tail
      ends = ap (after_end 0) split ∙ skips m ls rs ta 0 (Else ∷ ((second ++ End ∷ rest) ++ tail)) ∙ past second rest tail tb

      other : else_arm 0 ((first ++ Else ∷ (second ++ End ∷ rest)) ++ tail) ≡ (second ++ End ∷ rest) ++ tail
      other = ap (else_arm 0) split ∙ skips_else m ls rs ta 0 (Else ∷ ((second ++ End ∷ rest) ++ tail))

      k : BlockLabel
      k = record { keeps = has_value b; goes_on = after_end 0 ((first ++ Else ∷ (second ++ End ∷ rest)) ++ tail); below = vals }

      on_after : Goes m ls rs ks labels (known (left_by b) ++ ts) (after_end 0 ((first ++ Else ∷ (second ++ End ∷ rest)) ++ tail))
      on_after = subst (Goes m ls rs ks labels (known (left_by b) ++ ts)) (sym ends) (goes td tl)

      arm : (x : ℕ) → Sound m (step m g (conf ks (I32 x ∷ vals) (If b ∷ ((first ++ Else ∷ (second ++ End ∷ rest)) ++ tail))))
      arm zero = on {labels = left_by b ∷ labels} [] [] no_values (subst (Goes m ls rs (k ∷ ks) (left_by b ∷ labels) []) (sym other) (inner tail k ts (left_by b) (left_by b) second rest (left_takes b) lv on_after tb mb (goes td tl)))
      arm (suc x) = on {labels = left_by b ∷ labels} [] [] no_values (subst (Goes m ls rs (k ∷ ks) (left_by b ∷ labels) []) (sym split) (goes ta (by_else ts (left_takes b) lv on_after ma)))

  -- a function is called: its frame, and the operands below its arguments
  callee : (f : Func) → TypedBody m (f.type.params ++ f.body.locals) (results_of f.type) f.body.code → (ts : Operands) (vals : List ConstValue) → HaveTypes vals (known (reverse f.type.params) ++ ts) →
      (nat_le (length f.type.params) (length vals) ≡ true) × HaveTypes (drop (length f.type.params) vals) ts × Runs m (frame_of f vals) (f.type.params ++ f.body.locals) (results_of f.type) []
  callee f typed ts vals lv =
      let n : ℕ = length f.type.params in
      let args = known (reverse f.type.params) in
      let len : length args ≡ n = length-map (reverse f.type.params) Of ∙ length-reverse f.type.params in
      let le : n ≤ length vals = omega (arith, have_length lv, length-append args ts, len) in
      let front : HaveTypes (take n vals) args = subst (λ k. HaveTypes (take k vals) args) len (have_front args ts lv) in
      let left : HaveTypes (drop n vals) ts = subst (λ k. HaveTypes (drop k vals) ts) len (have_rest args ts lv) in
      let back_order : reverse args ≡ known f.type.params = ap reverse (known_reverse f.type.params) ∙ reverse-reverse (known f.type.params) in
      let taken : HaveTypes (reverse (take n vals) ++ map zero_of f.body.locals) (known f.type.params ++ known f.body.locals) = have_append (subst (HaveTypes (reverse (take n vals))) back_order (have_reverse front)) (zeros_have f.body.locals) in
      let all : HaveTypes (reverse (take n vals) ++ map zero_of f.body.locals) (known (f.type.params ++ f.body.locals)) = subst (HaveTypes (reverse (take n vals) ++ map zero_of f.body.locals)) (sym (map-append Of f.type.params f.body.locals)) taken in
      let started = subst (Goes m (f.type.params ++ f.body.locals) (results_of f.type) [] (results_of f.type ∷ []) []) (sym typed.ends) (goes typed.typed (fin typed.matched)) in (
        le-leb n (length vals) le,
        left,
        record { labels = results_of f.type ∷ []; ts = []; keeps = result_takes f.type.result; locals = all; operands = no_values; goes_on = started },
      )

  sound_call : (ks : List BlockLabel) (labels : List OperandTypes) (before : List ConstValue) (whole : List Instr) (f : Func) → TypedBody m (f.type.params ++ f.body.locals) (results_of f.type) f.body.code → (ts : Operands) (vals : List ConstValue) (code : List Instr) → HaveTypes vals (known
      (reverse f.type.params) ++ ts) → Goes m ls rs ks labels (known (results_of f.type) ++ ts) code → Sound m (call (conf ks before whole) f vals code)
  sound_call ks labels before whole f typed ts vals code lv go =
      let n : ℕ = length f.type.params in
      let c = conf ks before whole in
      let (le, left, runs) = callee f typed ts vals lv in
      let to : Conf = record { store = store; current = frame_of f vals; callers = record c.current { operands = drop n vals; rest = code } ∷ callers } in (
        At to,
        ap (λ (b : Bool). if b then Some (At to) else None) le,
        record {
          ls = f.type.params ++ f.body.locals;
          rs = results_of f.type;
          globals = gl;
          runs = runs;
          chain = (ls, rs, record { labels = labels; ts = ts; keeps = tk; locals = ll; operands = left; goes_on = go }, chain);
        },
      )

  -- in place of the one that runs, where its results are that one's
  sound_tail_call : (ks : List BlockLabel) (before : List ConstValue) (whole : List Instr) (f : Func) → TypedBody m (f.type.params ++ f.body.locals) (results_of f.type) f.body.code → (ts : Operands) (vals : List ConstValue) → HaveTypes vals (known (reverse f.type.params) ++ ts) → results_of f.type ≡ rs → Sound m (tail_call (conf ks before whole) f vals)
  sound_tail_call ks before whole f typed ts vals lv same =
      let (le, left, runs) = callee f typed ts vals lv in
      let to : Conf = record { store = store; current = frame_of f vals; callers = callers } in (
        At to,
        ap (λ (b : Bool). if b then Some (At to) else None) le,
        record { ls = f.type.params ++ f.body.locals; rs = results_of f.type; globals = gl; runs = runs; chain = subst (Chain m callers) (sym same) chain },
      )

  sound_trap : (k : TrapKind) (ks : List BlockLabel) (before : List ConstValue) (whole : List Instr) → Sound m (trap k (conf ks before whole))
  sound_trap k ks before whole = (Over (Trapped k) store, refl, gl)

  sound_entry : (ks : List BlockLabel) (before : List ConstValue) (whole : List Instr) (t : FuncType) (go : Func → Option State) → ((k : Func) → TypedBody m (k.type.params ++ k.body.locals) (results_of k.type) k.body.code → t.params ≡ k.type.params → t.result ≡ k.type.result → Sound m (go k)) → (x : ℕ) (o : Option (Option ℕ)) → slice_get (table_of m) x ≡ o → Sound m (on_entry m t o (conf ks before whole) go)
  sound_entry ks before whole t go each x None e = sound_trap kind.UndefinedElement ks before whole
  sound_entry ks before whole t go each x (Some None) e = sound_trap kind.UninitializedElement ks before whole
  sound_entry ks before whole t go each x (Some (Some f)) e =
      let c = conf ks before whole in
      let h = found_in m valid f (entry_there m valid x f e) in
      subst (Sound m) (sym (ap (λ (o : Option Func). on_some o (λ k. if same_func_type t k.type then go k else trap kind.IndirectType c)) h.is))
      (by_type h.func h.typed (same_func_type t h.func.type) refl)
    where
      by_type : (k : Func) → TypedBody m (k.type.params ++ k.body.locals) (results_of k.type) k.body.code → (b : Bool) → same_func_type t k.type ≡ b → Sound m (if b then go k else trap kind.IndirectType (conf ks before whole))
      by_type k typed true e = let (p, r) = func_type_eq t k.type e in each k typed p r
      by_type k typed false e = sound_trap kind.IndirectType ks before whole

  -- what an instruction's effect says
  given : (ts : Operands) {pops pushes : OperandTypes} {ks : List BlockLabel} {labels : List OperandTypes} {code : List Instr} (a b : OperandTypes) (vals : List ConstValue) → ◌≡◌ {A = Effect} (a, b) (pops, pushes) → HaveTypes vals (known pops ++ ts) → Goes m ls rs ks labels (known pushes ++
      ts) code → HaveTypes vals (known a ++ ts) × Goes m ls rs ks labels (known b ++ ts) code
  given ts {ks = ks} {labels = labels} {code = code} a b vals e lv go =
      let q = sym e in
      (subst (λ (x : Effect). HaveTypes vals (known x.0 ++ ts)) q lv, subst (λ (x : Effect). Goes m ls rs ks labels (known x.1 ++ ts) code) q go)

  sound_plain : {ks : List BlockLabel} {labels : List OperandTypes} {pops pushes : OperandTypes} {code : List Instr} (i : Instr) (ts : Operands) (vals : List ConstValue) → effect m ls i ≡ Some (pops, pushes) → HaveTypes vals (known pops ++ ts) → Goes m ls rs ks labels (known pushes ++
      ts) code → Sound m (step m g (conf ks vals (i ∷ code)))
  sound_plain Nop ts vals e lv go = let d = given ts [] [] vals (same_Some _ _ e) lv go in on ts vals d.0 d.1
  sound_plain (I32Const n) ts vals e lv go = let d = given ts [] (type.I32 ∷ []) vals (same_Some _ _ e) lv go in on (Of type.I32 ∷ ts) (I32 n ∷ vals) (values is_i32 d.0) d.1
  sound_plain (I64Const n) ts vals e lv go = let d = given ts [] (type.I64 ∷ []) vals (same_Some _ _ e) lv go in on (Of type.I64 ∷ ts) (I64 n ∷ vals) (values is_i64 d.0) d.1
  sound_plain {ks = ks} {labels = labels} {pops = pops} {pushes = pushes} {code = code} (Operation op) ts vals e lv go = by (is_unary op) (same_Some _ _ e)
    where
      by : (b : Bool) → operating b ≡ (pops, pushes) → Sound m (operation b op code (conf ks vals (Operation op ∷ code)))
      by true q =
          let d = given ts (type.I32 ∷ []) (type.I32 ∷ []) vals q lv go in
          popped (λ v. Sound m (operation true op code (conf ks v (Operation op ∷ code)))) d.0 (λ x r h. on (Of type.I32 ∷ ts) (I32 (unary op x) ∷ r) (values is_i32 h) d.1)
      by false q =
          let d = given ts (type.I32 ∷ type.I32 ∷ []) (type.I32 ∷ []) vals q lv go in
          popped (λ v. Sound m (operation false op code (conf ks v (Operation op ∷ code)))) d.0
          (λ y r h. popped (λ v. Sound m (operation false op code (conf ks (I32 y ∷ v) (Operation op ∷ code)))) h (λ x q k. on (Of type.I32 ∷ ts) (I32 (binary op x y) ∷ q) (values is_i32 k) d.1))
  sound_plain {ks = ks} {code = code} MemorySize ts vals e lv go =
      let w = when_of (is_some m.memory) ([], type.I32 ∷ []) _ e in
      let d = given ts [] (type.I32 ∷ []) vals w.1 lv go in
      on (Of type.I32 ∷ ts) (I32 store.pages ∷ vals) (values is_i32 d.0) d.1
  sound_plain {ks = ks} {labels = labels} {code = code} MemoryGrow ts vals e lv go =
      let w = when_of (is_some m.memory) (type.I32 ∷ [], type.I32 ∷ []) _ e in
      let d = given ts (type.I32 ∷ []) (type.I32 ∷ []) vals w.1 lv go in
      popped (λ v. Sound m (step m g (conf ks v (MemoryGrow ∷ code)))) d.0
      (λ n r h.
      either m (g && nat_le (store.pages + n) (greatest_pages m.memory))
      (on_with (record store { pages = store.pages + n; memory = store.memory ++ zeroed n }) locals gl ll (Of type.I32 ∷ ts) (I32 store.pages ∷ r) (values is_i32 h) d.1)
      (on_with (record store { refused = true; by_choice = nat_le (store.pages + n) (greatest_pages m.memory) }) locals gl ll (Of type.I32 ∷ ts) (I32 (2 ^ 32 - 1) ∷ r) (values is_i32 h) d.1))
  sound_plain {ks = ks} {code = code} (I32Load a) ts vals e lv go =
      let w = when_of (is_some m.memory && nat_le a.align 2) (type.I32 ∷ [], type.I32 ∷ []) _ e in
      let d = given ts (type.I32 ∷ []) (type.I32 ∷ []) vals w.1 lv go in
      popped (λ v. Sound m (step m g (conf ks v (I32Load a ∷ code)))) d.0
      (λ n r h. either m (nat_le (n + a.offset + 4) (length store.memory)) (on (Of type.I32 ∷ ts) (I32 (word store.memory (n + a.offset)) ∷ r) (values is_i32 h) d.1) (sound_trap kind.OutOfBounds ks (I32 n ∷ r) (I32Load a ∷ code)))
  sound_plain {ks = ks} {code = code} (I32Load8U a) ts vals e lv go =
      let w = when_of (is_some m.memory && nat_le a.align 0) (type.I32 ∷ [], type.I32 ∷ []) _ e in
      let d = given ts (type.I32 ∷ []) (type.I32 ∷ []) vals w.1 lv go in
      popped (λ v. Sound m (step m g (conf ks v (I32Load8U a ∷ code)))) d.0
      (λ n r h. either m (nat_le (n + a.offset + 1) (length store.memory)) (on (Of type.I32 ∷ ts) (I32 (byte store.memory (n + a.offset)) ∷ r) (values is_i32 h) d.1) (sound_trap kind.OutOfBounds ks (I32 n ∷ r) (I32Load8U a ∷ code)))
  sound_plain {ks = ks} {code = code} (I32Store a) ts vals e lv go =
      let w = when_of (is_some m.memory && nat_le a.align 2) (type.I32 ∷ type.I32 ∷ [], []) _ e in
      let d = given ts (type.I32 ∷ type.I32 ∷ []) [] vals w.1 lv go in
      popped (λ v. Sound m (step m g (conf ks v (I32Store a ∷ code)))) d.0
      (λ n r h. popped (λ v. Sound m (step m g (conf ks (I32 n ∷ v) (I32Store a ∷ code)))) h
      (λ i q k. either m (nat_le (i + a.offset + 4) (length store.memory)) (on_with (record store { memory = put_word store.memory (i + a.offset) n }) locals gl ll ts q k d.1) (sound_trap kind.OutOfBounds ks (I32 n ∷ I32 i ∷ q) (I32Store a ∷ code))))
  sound_plain {ks = ks} {code = code} (I32Store8 a) ts vals e lv go =
      let w = when_of (is_some m.memory && nat_le a.align 0) (type.I32 ∷ type.I32 ∷ [], []) _ e in
      let d = given ts (type.I32 ∷ type.I32 ∷ []) [] vals w.1 lv go in
      popped (λ v. Sound m (step m g (conf ks v (I32Store8 a ∷ code)))) d.0
      (λ n r h. popped (λ v. Sound m (step m g (conf ks (I32 n ∷ v) (I32Store8 a ∷ code)))) h
      (λ i q k. either m (nat_le (i + a.offset + 1) (length store.memory)) (on_with (record store { memory = put_byte store.memory (i + a.offset) n }) locals gl ll ts q k d.1) (sound_trap kind.OutOfBounds ks (I32 n ∷ I32 i ∷ q) (I32Store8 a ∷ code))))
  sound_plain {ks = ks} {code = code} (LocalGet x) ts vals e lv go =
      let (t, ht, q) = map_of getting (slice_get ls x) _ e in
      let d = given ts [] (t ∷ []) vals q lv go in
      let (v, hv, tv) = have_get x (Of t) ll (known_at ls x t ht) in
      let c = conf ks vals (LocalGet x ∷ code) in
      subst (Sound m) (sym (ap (λ (o : Option ConstValue). on_some o (λ y. going_on c (y ∷ vals) code)) hv)) (on (Of t ∷ ts) (v ∷ vals) (values tv d.0) d.1)
  sound_plain {ks = ks} {code = code} (LocalSet x) ts vals e lv go =
      let (t, ht, q) = map_of setting (slice_get ls x) _ e in
      let d = given ts (t ∷ []) [] vals q lv go in
      let (old, hv, tv) = have_get x (Of t) ll (known_at ls x t ht) in
      popped_any (λ v. Sound m (step m g (conf ks v (LocalSet x ∷ code)))) d.0
      (λ y r ty h.
      let c = conf ks (y ∷ r) (LocalSet x ∷ code) in
      subst (Sound m) (sym (ap (λ (o : Option ConstValue). on_some o (λ old. Some (At (record c { current = record c.current { locals = slice_set locals x y; operands = r; rest = code } })))) hv))
      (on_with store (slice_set locals x y) gl (have_set x (Of t) y ll (known_at ls x t ht) ty) ts r h d.1))
  sound_plain {ks = ks} {code = code} (LocalTee x) ts vals e lv go =
      let (t, ht, q) = map_of keeping (slice_get ls x) _ e in
      let d = given ts (t ∷ []) (t ∷ []) vals q lv go in
      let (old, hv, tv) = have_get x (Of t) ll (known_at ls x t ht) in
      popped_any (λ v. Sound m (step m g (conf ks v (LocalTee x ∷ code)))) d.0
      (λ y r ty h.
      let c = conf ks (y ∷ r) (LocalTee x ∷ code) in
      subst (Sound m) (sym (ap (λ (o : Option ConstValue). on_some o (λ old. Some (At (record c { current = record c.current { locals = slice_set locals x y; operands = y ∷ r; rest = code } })))) hv))
      (on_with store (slice_set locals x y) gl (have_set x (Of t) y ll (known_at ls x t ht) ty) (Of t ∷ ts) (y ∷ r) (values ty h) d.1))
  sound_plain {ks = ks} {code = code} (GlobalGet x) ts vals e lv go =
      let (d0, hd, q) = map_of (λ (d : GlobalDef). getting d.ty) (slice_get m.globals x) _ e in
      let d = given ts [] (d0.ty ∷ []) vals q lv go in
      let at : slice_get (global_types m) x ≡ Some (Of d0.ty) = slice_get-map (λ (d : GlobalDef). Of d.ty) m.globals x ∙ ap (option_map (λ (d : GlobalDef). Of d.ty)) hd in
      let (v, hv, tv) = have_get x (Of d0.ty) gl at in
      let c = conf ks vals (GlobalGet x ∷ code) in
      subst (Sound m) (sym (ap (λ (o : Option ConstValue). on_some o (λ y. going_on c (y ∷ vals) code)) hv)) (on (Of d0.ty ∷ ts) (v ∷ vals) (values tv d.0) d.1)
  sound_plain {ks = ks} {code = code} (GlobalSet x) ts vals e lv go =
      let (d0, hd, q0) = some_of (λ (d : GlobalDef). when d.mutable (setting d.ty)) (slice_get m.globals x) _ e in
      let (mut, q) = when_of d0.mutable (setting d0.ty) _ q0 in
      let d = given ts (d0.ty ∷ []) [] vals q lv go in
      let at : slice_get (global_types m) x ≡ Some (Of d0.ty) = slice_get-map (λ (d : GlobalDef). Of d.ty) m.globals x ∙ ap (option_map (λ (d : GlobalDef). Of d.ty)) hd in
      let (old, hv, tv) = have_get x (Of d0.ty) gl at in
      popped_any (λ v. Sound m (step m g (conf ks v (GlobalSet x ∷ code)))) d.0
      (λ y r ty h.
      let c = conf ks (y ∷ r) (GlobalSet x ∷ code) in
      subst (Sound m) (sym (ap (λ (o : Option ConstValue). on_some o (λ old. storing c (record store { globals = slice_set store.globals x y }) r code)) hv))
      (on_with (record store { globals = slice_set store.globals x y }) locals (have_set x (Of d0.ty) y gl at ty) ll ts r h d.1))
  sound_plain {ks = ks} {labels = labels} {code = code} (Call f) ts vals e lv go =
      let (t, ht, q) = map_of calling (func_type m f) _ e in
      let (h, is) = found_typed m valid f t ht in
      let d = given ts (reverse t.params) (results_of t) vals q lv go in
      let c = conf ks vals (Call f ∷ code) in
      subst (Sound m) (sym (ap (λ (o : Option Func). on_some o (λ k. call c k vals code)) h.is))
      (sound_call ks labels vals (Call f ∷ code) h.func h.typed ts vals code (subst (λ (u : FuncType). HaveTypes vals (known (reverse u.params) ++ ts)) (sym is) d.0) (subst (λ (u : FuncType). Goes m ls rs ks labels (known (results_of u) ++ ts) code) (sym is) d.1))
  sound_plain {ks = ks} {labels = labels} {code = code} (CallIndirect index table) ts vals e lv go =
      let (t, ht, q0) = some_of (λ (t : FuncType). when (nat_eq table 0 && is_some m.table) (calling_entry t)) (slice_get m.types index) _ e in
      let (there, q) = when_of (nat_eq table 0 && is_some m.table) (calling_entry t) _ q0 in
      let d = given ts (type.I32 ∷ reverse t.params) (results_of t) vals q lv go in
      popped (λ v. Sound m (step m g (conf ks v (CallIndirect index table ∷ code)))) d.0
      (λ x r h.
      let c = conf ks (I32 x ∷ r) (CallIndirect index table ∷ code) in
      subst (Sound m) (sym (ap (λ (o : Option FuncType). on_some o (λ u. on_entry m u (slice_get (table_of m) x) c (λ k. call c k r code))) ht))
      (sound_entry ks (I32 x ∷ r) (CallIndirect index table ∷ code) t (λ k. call c k r code)
      (λ k typed p q. sound_call ks labels (I32 x ∷ r) (CallIndirect index table ∷ code) k typed ts r code (subst (λ ps. HaveTypes r (known (reverse ps) ++ ts)) p h) (subst (λ res. Goes m ls rs ks labels (known (option_to_list res) ++ ts) code) q d.1)) x (slice_get (table_of m) x) refl))
  sound_plain Unreachable ts vals e lv go = no e
  sound_plain (Block b) ts vals e lv go = no e
  sound_plain (Loop b) ts vals e lv go = no e
  sound_plain (If b) ts vals e lv go = no e
  sound_plain Else ts vals e lv go = no e
  sound_plain End ts vals e lv go = no e
  sound_plain (Br l) ts vals e lv go = no e
  sound_plain (BrIf l) ts vals e lv go = no e
  sound_plain (BrTable l ks) ts vals e lv go = no e
  sound_plain Return ts vals e lv go = no e
  sound_plain (ReturnCall f) ts vals e lv go = no e
  sound_plain (ReturnCallIndirect index table) ts vals e lv go = no e
  sound_plain Drop ts vals e lv go = no e

  sound_tail : (ks : List BlockLabel) (code : List Instr) {pops : OperandTypes} (i : Instr) (ts : Operands) (vals : List ConstValue) → tail_effect m i ≡ Some (pops, rs) → HaveTypes vals (known pops ++ ts) → Sound m (step m g (conf ks vals (i ∷ code)))
  sound_tail ks code (ReturnCall f) ts vals e lv =
      let (t, ht, q) = map_of calling (func_type m f) _ e in
      let (h, is) = found_typed m valid f t ht in
      let c = conf ks vals (ReturnCall f ∷ code) in
      let args : HaveTypes vals (known (reverse t.params) ++ ts) = subst (λ (x : Effect). HaveTypes vals (known x.0 ++ ts)) (sym q) lv in
      let same : results_of h.func.type ≡ rs = ap results_of is ∙ ap (λ (x : Effect). x.1) q in
      subst (Sound m) (sym (ap (λ (o : Option Func). on_some o (λ k. tail_call c k vals)) h.is))
      (sound_tail_call ks vals (ReturnCall f ∷ code) h.func h.typed ts vals (subst (λ (u : FuncType). HaveTypes vals (known (reverse u.params) ++ ts)) (sym is) args) same)
  sound_tail ks code (ReturnCallIndirect index table) ts vals e lv =
      let (t, ht, q0) = some_of (λ (t : FuncType). when (nat_eq table 0 && is_some m.table) (calling_entry t)) (slice_get m.types index) _ e in
      let (there, q) = when_of (nat_eq table 0 && is_some m.table) (calling_entry t) _ q0 in
      let args : HaveTypes vals (known (type.I32 ∷ reverse t.params) ++ ts) = subst (λ (x : Effect). HaveTypes vals (known x.0 ++ ts)) (sym q) lv in
      let same : results_of t ≡ rs = ap (λ (x : Effect). x.1) q in
      popped (λ v. Sound m (step m g (conf ks v (ReturnCallIndirect index table ∷ code)))) args
      (λ x r h.
      let c = conf ks (I32 x ∷ r) (ReturnCallIndirect index table ∷ code) in
      subst (Sound m) (sym (ap (λ (o : Option FuncType). on_some o (λ u. on_entry m u (slice_get (table_of m) x) c (λ k. tail_call c k r))) ht))
      (sound_entry ks (I32 x ∷ r) (ReturnCallIndirect index table ∷ code) t (λ k. tail_call c k r)
      (λ k typed p s. sound_tail_call ks (I32 x ∷ r) (ReturnCallIndirect index table ∷ code) k typed ts r (subst (λ ps. HaveTypes r (known (reverse ps) ++ ts)) p h) (ap option_to_list (sym s) ∙ same)) x (slice_get (table_of m) x) refl))
  sound_tail ks code Unreachable ts vals e lv = no e
  sound_tail ks code Nop ts vals e lv = no e
  sound_tail ks code (Block b) ts vals e lv = no e
  sound_tail ks code (Loop b) ts vals e lv = no e
  sound_tail ks code (If b) ts vals e lv = no e
  sound_tail ks code Else ts vals e lv = no e
  sound_tail ks code End ts vals e lv = no e
  sound_tail ks code (Br l) ts vals e lv = no e
  sound_tail ks code (BrIf l) ts vals e lv = no e
  sound_tail ks code (BrTable l js) ts vals e lv = no e
  sound_tail ks code Return ts vals e lv = no e
  sound_tail ks code (Call f) ts vals e lv = no e
  sound_tail ks code (CallIndirect index table) ts vals e lv = no e
  sound_tail ks code Drop ts vals e lv = no e
  sound_tail ks code (LocalGet x) ts vals e lv = no e
  sound_tail ks code (LocalSet x) ts vals e lv = no e
  sound_tail ks code (LocalTee x) ts vals e lv = no e
  sound_tail ks code (GlobalGet x) ts vals e lv = no e
  sound_tail ks code (GlobalSet x) ts vals e lv = no e
  sound_tail ks code (I32Load x) ts vals e lv = no e
  sound_tail ks code (I32Load8U x) ts vals e lv = no e
  sound_tail ks code (I32Store x) ts vals e lv = no e
  sound_tail ks code (I32Store8 x) ts vals e lv = no e
  sound_tail ks code MemorySize ts vals e lv = no e
  sound_tail ks code MemoryGrow ts vals e lv = no e
  sound_tail ks code (I32Const n) ts vals e lv = no e
  sound_tail ks code (I64Const n) ts vals e lv = no e
  sound_tail ks code (Operation op) ts vals e lv = no e

  -- a branch to a label that the operands reach
  sound_reach : {ks : List BlockLabel} {labels : List OperandTypes} {us : Operands} {tail : List Instr} → Tail m ls rs ks labels us tail → (os ts : Operands) (l : ℕ) → Reaches labels l os → (before vals : List ConstValue) (rest : List Instr) → HaveTypes vals (os ++ ts) → Sound m (branch
      (conf ks before rest) l vals)
  sound_reach {ks = ks} {labels = labels} tl os ts l r before vals rest lv =
      sound_branch ks labels before vals rest ts r.wanted l (have_matched ts r.matched lv) (target m ls rs tl l r.found)

  sound_code : {ks : List BlockLabel} {labels : List OperandTypes} {ts us : Operands} {body tail : List Instr} → Typed m ls rs labels ts body us → Tail m ls rs ks labels us tail → (vals : List ConstValue) → HaveTypes vals ts → Sound m (step m g (conf ks vals (body ++ tail)))
  sound_code {ts = ts} done (fin ma) vals lv = sound_out [] vals vals (End ∷ []) [] (subst (HaveTypes vals) (sym (append-nil (known rs))) (have_all ma lv))
  sound_code done (by_end {k = k} {ends = ends} below t lb gs ma gb) vals lv = on (known ends ++ below) (vals ++ k.below) (have_append (have_all ma lv) lb) gb
  sound_code done (by_else {k = k} {lt = lt} below t lb gs ma) vals lv = on (known lt ++ below) (vals ++ k.below) (have_append (have_all ma lv) lb) gs
  sound_code (plain os ts {i = i} e ma t) tl vals lv = sound_plain i ts vals e (have_matched ts ma lv) (goes t tl)
  sound_code {ks = ks} {tail = tail} (typing.drop {ts = ts} {rest = rest} t) tl vals lv =
      popped_any (λ v. Sound m (step m g (conf ks v (Drop ∷ (rest ++ tail))))) lv (λ x r tx h. on ts r h (goes t tl))
  sound_code {ks = ks} {tail = tail} (unreachable {rest = rest} t) tl vals lv = sound_trap kind.Unreachable ks vals (Unreachable ∷ (rest ++ tail))
  sound_code (block {ts = ts} {b = b} {body = body} {rest = rest} tb ma td) tl vals lv = sound_block ts vals b body rest lv tb ma td tl
  sound_code (loop {ts = ts} {b = b} {body = body} {rest = rest} tb ma td) tl vals lv = sound_loop ts vals b body rest lv tb ma td tl
  sound_code {ks = ks} {tail = tail} (one_arm {ts = ts} {body = body} {rest = rest} k tb td) tl vals lv =
      popped_test (λ v. Sound m (step m g (conf ks v (If Empty ∷ ((body ++ End ∷ rest) ++ tail))))) k lv (λ x r h. sound_one_arm ts x r body rest h tb td tl)
  sound_code {ks = ks} {tail = tail} (two_arms {ts = ts} {b = b} {first = first} {second = second} {rest = rest} k ta ma tb mb td) tl vals lv =
      popped_test (λ v. Sound m (step m g (conf ks v (If b ∷ ((first ++ Else ∷ (second ++ End ∷ rest)) ++ tail))))) k lv (λ x r h. sound_two_arms ts x r b first second rest h ta ma tb mb td tl)
  sound_code {ks = ks} {tail = tail} (br os ts {l = l} {rest = rest} r t) tl vals lv = sound_reach tl os ts l r vals vals (Br l ∷ (rest ++ tail)) lv
  sound_code {ks = ks} {labels = labels} {tail = tail} (br_if os ts {l = l} {rest = rest} k r t) tl vals lv =
      popped_test (λ v. Sound m (step m g (conf ks v (BrIf l ∷ (rest ++ tail))))) k lv (λ x q h. choose x q h)
    where
      choose : (x : ℕ) (q : List ConstValue) → HaveTypes q (os ++ ts) → Sound m (step m g (conf ks (I32 x ∷ q) (BrIf l ∷ (rest ++ tail))))
      choose zero q h = on (known r.wanted ++ ts) q (have_matched ts r.matched h) (goes t tl)
      choose (suc x) q h = sound_reach tl os ts l r (I32 (suc x) ∷ q) q (BrIf l ∷ (rest ++ tail)) h
  sound_code {ks = ks} {labels = labels} {tail = tail} (br_table os ts {ls = js} {l = l} {rest = rest} k rl r t) tl vals lv =
      popped_test (λ v. Sound m (step m g (conf ks v (BrTable l js ∷ (rest ++ tail))))) k lv (λ x q h. choose x (slice_get js x) refl q h)
    where
      choose : (x : ℕ) (o : Option ℕ) → slice_get js x ≡ o → (q : List ConstValue) → HaveTypes q (os ++ ts) → Sound m (branch (conf ks (I32 x ∷ q) (BrTable l js ∷ (rest ++ tail))) (unwrap_or o l) q)
      choose x None e q h = sound_reach tl os ts l r (I32 x ∷ q) q (BrTable l js ∷ (rest ++ tail)) h
      choose x (Some j) e q h = sound_reach tl os ts j (rl x j e) (I32 x ∷ q) q (BrTable l js ∷ (rest ++ tail)) h
  sound_code {ks = ks} {tail = tail} (return os ts {rest = rest} ma t) tl vals lv = sound_out ks vals vals (Return ∷ (rest ++ tail)) ts (have_matched ts ma lv)
  sound_code {ks = ks} {tail = tail} (typing.tail_call os ts {i = i} {rest = rest} e ma t) tl vals lv = sound_tail ks (rest ++ tail) i ts vals e (have_matched ts ma lv)

-- in a valid module a run that has not ended has a step, whether a grow is granted or not, and it leads on to such a state
pub safe : (m : Parts) → IsValid m → (g : Bool) (c : Conf) → Good m c → (s : State) × (step m g c ≡ Some s) × GoodState m s
safe m valid g c good = at good.runs.goes_on
  where
    at : {code : List Instr} → Goes m good.ls good.rs c.current.labels good.runs.labels good.runs.ts code → (s : State) × (step m g (record c { current = record c.current { rest = code } }) ≡ Some s) × GoodState m s
    at (goes t tl) = sound_code m valid g c.store good.globals c.callers good.ls good.rs good.chain c.current.keeps good.runs.keeps c.current.locals good.runs.locals t tl c.current.operands good.runs.operands

pub can_step : (m : Parts) (g : Bool) (c : Conf) → IsValid m → Good m c → is_some (step m g c) ≡ true
can_step m g c valid good = let (s, e, next) = safe m valid g c good in subst (λ (o : Option State). is_some o ≡ true) (sym e) refl

pub stays_good : (m : Parts) (g : Bool) (c : Conf) (s : State) → IsValid m → Good m c → step m g c ≡ Some s → GoodState m s
stays_good m g c s valid good e = let (t, f, next) = safe m valid g c good in subst (GoodState m) (same_Some _ _ (sym f ∙ e)) next
