-- The one pass against the typing.
use Rattle.std.proofs.Common.{◌≡◌, ℕ, zero, suc, List, [], ◌∷◌, ◌++◌, Option, Some, None, Bool, true, false, refl, ap, sym, ◌∙◌, subst, append_assoc, ◌+◌, ◌<◌, length, take, get_or, eq-eqb}
use Rattle.std.specs.Prelude.{slice_get, ◌&&◌, nat_eq, is_some}
use Rattle.std.proofs.lemmas.List.{append-nil, take_more, map-append}
use Rattle.std.proofs.lemmas.Bool.{eqb-true, and_parts}
use Rattle.std.proofs.lemmas.Option.{same_Some}
use Rattle.wasm_core.specs.declared.types.ValType.{ValType}
use Rattle.wasm_core.specs.declared.types.ValType.TheVariants.{I32, I64}
use Rattle.wasm_core.specs.declared.instrs.BlockType.{BlockType}
use Rattle.wasm_core.specs.declared.instrs.BlockType.TheVariants.{Empty, Value}
use Rattle.wasm_core.specs.declared.instrs.Instr.{Instr}
use Rattle.wasm_core.specs.declared.instrs.Instr.TheVariants.{Unreachable, Nop, Block, Loop, If, Else, End, Br, BrIf, BrTable, Return, Call, CallIndirect, ReturnCall, ReturnCallIndirect, Drop, LocalGet, LocalSet, LocalTee, GlobalGet, GlobalSet, I32Load, I32Load8U, I32Store, I32Store8, MemorySize, MemoryGrow, I32Const, I64Const, I32 as Operation}
use Rattle.wasm_core.specs.Parts.{Parts}
use Rattle.wasm_core.specs.MachineStep.{on_some, same_types}
use Rattle.wasm_core.specs.ModuleTyping.{OperandTypes, Operands, OperandType, Of, Bottom, known, Match, match_none, match_same, match_bottom, Effect, Reaches, Typed, TypedBody, done, plain, drop, unreachable, block, loop, one_arm, two_arms, br, br_if, br_table, return, tail_call, effect, tail_effect, left_by}
use Rattle.wasm_core.specs.FirstFault.{CanGoOn}
use Rattle.wasm_core.specs.Pass.{Known, Ctl, Place, Check, More, Finished, knowing, same, only, take_off, off, put_on, if_none, closes, drop_one, dead, labels_of, opened, may_end, fits_label, fit_labels, check, check_end, check_else, check_tail, passes, Accepts, outset, one, run}
use Rattle.wasm_core.proofs.Small.{no}
use Rattle.wasm_core.proofs.TypedRules.{match_known}
use Rattle.wasm_core.proofs.Functions.{types_eq, types_same}

-- what is known stands for these operands
abbrev RepOf : Bool → OperandTypes → Operands → Type 0
RepOf false vals ts = ts ≡ known vals
RepOf true vals ts = (any : Operands) × (ts ≡ known vals ++ any)

abbrev Rep : Known → Operands → Type 0
Rep k ts = RepOf k.loose k.vals ts

rep_vals : (loose : Bool) (vals : OperandTypes) → RepOf loose vals (known vals)
rep_vals false vals = refl
rep_vals true vals = ([], sym (append-nil (known vals)))

rep_cons : (loose : Bool) (v : ValType) (vals : OperandTypes) (ts : Operands) → RepOf loose vals ts → RepOf loose (v ∷ vals) (Of v ∷ ts)
rep_cons false v vals ts r = ap (λ x. Of v ∷ x) r
rep_cons true v vals ts r = (r.0, ap (λ x. Of v ∷ x) r.1)

rep_put : (loose : Bool) (ps vals : OperandTypes) (ts : Operands) → RepOf loose vals ts → RepOf loose (ps ++ vals) (known ps ++ ts)
rep_put loose [] vals ts r = r
rep_put loose (p ∷ ps) vals ts r = rep_cons loose p (ps ++ vals) (known ps ++ ts) (rep_put loose ps vals ts r)

same_eq : (p v : ValType) → same p v ≡ true → p ≡ v
same_eq I32 I32 h = refl
same_eq I32 I64 h = cc
same_eq I64 I32 h = cc
same_eq I64 I64 h = refl

same_refl : (p : ValType) → same p p ≡ true
same_refl I32 = refl
same_refl I64 = refl

only_some : {A : Type 0} (b : Bool) (o : Option A) (x : A) → only b o ≡ Some x → (b ≡ true) × (o ≡ Some x)
only_some true o x h = (refl, h)
only_some false o x h = no h

off_sound : (ps vals : OperandTypes) (loose : Bool) (k : Known) (ts : Operands) → take_off ps vals loose ≡ Some k → Rep k ts → RepOf loose vals (known ps ++ ts)
off_sound [] vals loose k ts e r = subst (λ (x : Known). Rep x ts) (sym (same_Some _ _ e)) r
off_sound (p ∷ ps) [] false k ts e r = no e
off_sound (p ∷ ps) [] true k ts e r = (known (p ∷ ps) ++ ts, refl)
off_sound (p ∷ ps) (v ∷ vals) loose k ts e r =
    let w = only_some (same p v) (take_off ps vals loose) k e in
    let q = rep_cons loose p vals (known ps ++ ts) (off_sound ps vals loose k ts w.1 r) in
    subst (λ x. RepOf loose (x ∷ vals) (Of p ∷ (known ps ++ ts))) (same_eq p v w.0) q

-- the topmost operand that is known
rep_head : (loose : Bool) (o : OperandType) (v : ValType) (xs : Operands) (vals : OperandTypes) → RepOf loose (v ∷ vals) (o ∷ xs) → (o ≡ Of v) × RepOf loose vals xs
rep_head false o v xs vals r = (let a : o ≡ Of v = cc in a, let b : xs ≡ known vals = cc in b)
rep_head true o v xs vals (any, r) = (let a : o ≡ Of v = cc in a, (any, let b : xs ≡ known vals ++ any = cc in b))

off_complete : {os : Operands} {ps : OperandTypes} → Match os ps → (vals : OperandTypes) (loose : Bool) (ts : Operands) → RepOf loose vals (os ++ ts) → (k : Known) × (take_off ps vals loose ≡ Some k) × Rep k ts
off_complete match_none vals loose ts r = (knowing vals loose, refl, r)
off_complete (match_same m) [] false ts r = cc
off_complete (match_bottom m) [] false ts r = cc
off_complete (match_same m) [] true ts r = (knowing [] true, refl, (ts, refl))
off_complete (match_bottom m) [] true ts r = (knowing [] true, refl, (ts, refl))
off_complete (match_same {t = p} {os = os} {ts = ps} m) (v ∷ vals) loose ts r =
    let h = rep_head loose (Of p) v (os ++ ts) vals r in
    let (k, e, q) = off_complete m vals loose ts h.1 in
    let same_type : p ≡ v = let a : Of p ≡ Of v = h.0 in cc in
    (k, subst (λ x. only (same p x) (take_off ps vals loose) ≡ Some k) same_type (rw same_refl e), q)
off_complete (match_bottom {os = os} m) (v ∷ vals) loose ts r = let h : Bottom ≡ Of v = (rep_head loose Bottom v (os ++ ts) vals r).0 in cc

some_of : {A B : Type 0} (o : Option A) (f : A → Option B) (y : B) → on_some o f ≡ Some y → (x : A) × (o ≡ Some x) × (f x ≡ Some y)
some_of None f y e = no e
some_of (Some x) f y e = (x, refl, e)

-- ---- the operands for all labels of a `br_table`: what is known of so many, and bottom types

pad : ℕ → OperandTypes → Operands
pad zero vals = []
pad (suc n) [] = Bottom ∷ pad n []
pad (suc n) (v ∷ vals) = Of v ∷ pad n vals

pad_match_none : (lt : OperandTypes) → Match (pad (length lt) []) lt
unfolding pad
pad_match_none [] = match_none
pad_match_none (t ∷ lt) = match_bottom (pad_match_none lt)

pad_match : (lt vals : OperandTypes) (loose : Bool) (k : Known) → take_off lt vals loose ≡ Some k → Match (pad (length lt) vals) lt
unfolding pad
pad_match [] vals loose k e = match_none
pad_match (p ∷ ps) [] false k e = no e
pad_match (p ∷ ps) [] true k e = match_bottom (pad_match_none ps)
pad_match (p ∷ ps) (v ∷ vals) loose k e =
    let w = only_some (same p v) (take_off ps vals loose) k e in
    subst (λ x. Match (Of x ∷ pad (length ps) vals) (p ∷ ps)) (same_eq p v w.0) (match_same (pad_match ps vals loose k w.1))

pad_rep : (lt vals : OperandTypes) (loose : Bool) (k : Known) → take_off lt vals loose ≡ Some k → RepOf loose vals (pad (length lt) vals ++ known k.vals)
unfolding pad
pad_rep [] vals loose k e = subst (λ (x : Known). RepOf loose vals (known x.vals)) (same_Some _ _ e) (rep_vals loose vals)
pad_rep (p ∷ ps) [] false k e = no e
pad_rep (p ∷ ps) [] true k e = (_, refl)
pad_rep (p ∷ ps) (v ∷ vals) loose k e =
    let w = only_some (same p v) (take_off ps vals loose) k e in rep_cons loose v vals _ (pad_rep ps vals loose k w.1)

some_there : {A : Type 0} (o : Option A) → is_some o ≡ true → (x : A) × (o ≡ Some x)
some_there None e = cc
some_there (Some x) e = (x, refl)

label_sound : (labels : List OperandTypes) (l n : ℕ) (k : Known) (o : Option OperandTypes) → slice_get labels l ≡ o → fits_label o n k ≡ true → Reaches labels l (pad n k.vals)
label_sound labels l n k None h e = cc
label_sound labels l n k (Some lt) h e =
    let (a, b) = and_parts (nat_eq (length lt) n) (is_some (off lt k)) e in
    let (j, hj) = some_there (off lt k) b in
    record { wanted = lt; found = h; matched = subst (λ i. Match (pad i k.vals) lt) (eqb-true (length lt) n a) (pad_match lt k.vals k.loose j hj) }

labels_sound : (labels : List OperandTypes) (n : ℕ) (k : Known) (ls : List ℕ) → fit_labels labels n k ls ≡ true → (i l : ℕ) → slice_get ls i ≡ Some l → Reaches labels l (pad n k.vals)
labels_sound labels n k [] e i l h = no h
labels_sound labels n k (x ∷ ls) e zero l h =
    let (a, b) = and_parts (fits_label (slice_get labels x) n k) (fit_labels labels n k ls) e in
    subst (λ y. Reaches labels y (pad n k.vals)) (same_Some _ _ h) (label_sound labels x n k (slice_get labels x) refl a)
labels_sound labels n k (x ∷ ls) e (suc i) l h =
    let (a, b) = and_parts (fits_label (slice_get labels x) n k) (fit_labels labels n k ls) e in labels_sound labels n k ls b i l h

match_length : {os : Operands} {ps : OperandTypes} → Match os ps → length ps ≡ length os
match_length match_none = refl
match_length (match_same m) = ap suc (match_length m)
match_length (match_bottom m) = ap suc (match_length m)

labels_complete : (labels : List OperandTypes) (os ts : Operands) (n : ℕ) (k : Known) → n ≡ length os → Rep k (os ++ ts) → (ls : List ℕ) → ((i l : ℕ) → slice_get ls i ≡ Some l → Reaches labels l os) → fit_labels labels n k ls ≡ true
labels_complete labels os ts n k len r [] h = refl
labels_complete labels os ts n k len r (l ∷ ls) h =
    let x = h 0 l refl in
    let (j, hj, rj) = off_complete x.matched k.vals k.loose ts r in
    let a : nat_eq (length x.wanted) n ≡ true = eq-eqb (length x.wanted) n (match_length x.matched ∙ sym len) in
    let b : is_some (off x.wanted k) ≡ true = ap (λ (o : Option Known). is_some o) hj in
    let c : fits_label (slice_get labels l) n k ≡ true = ap (λ (o : Option OperandTypes). fits_label o n k) x.found ∙ ap (λ (t : Bool). t && is_some (off x.wanted k)) a ∙ b in
    ap (λ (t : Bool). t && fit_labels labels n k ls) c ∙ labels_complete labels os ts n k len r ls (λ i l e. h (suc i) l e)

none_passes : (go : Place → Type 0) (fin : Type 0) → passes None go fin → ⊥
none_passes go fin h = h

-- a step that goes on has found what it looked for
found : {A : Type 0} (o : Option A) (f : A → Option Check) (go : Place → Type 0) (fin : Type 0) → passes (on_some o f) go fin → (x : A) × (o ≡ Some x) × passes (f x) go fin
found None f go fin h = absurd h
found (Some x) f go fin h = (x, refl, h)

allowed : (b : Bool) (o : Option Check) (go : Place → Type 0) (fin : Type 0) → passes (only b o) go fin → (b ≡ true) × passes o go fin
allowed true o go fin h = (refl, h)
allowed false o go fin h = absurd h

drop_sound : (vals : OperandTypes) (loose : Bool) (k : Known) (ts : Operands) → drop_one vals loose ≡ Some k → Rep k ts → (t : OperandType) × RepOf loose vals (t ∷ ts)
drop_sound [] false k ts e r = no e
drop_sound [] true k ts e r = (Bottom, (Bottom ∷ ts, refl))
drop_sound (v ∷ vals) loose k ts e r = (Of v, rep_cons loose v vals ts (subst (λ (x : Known). Rep x ts) (sym (same_Some _ _ e)) r))

drop_complete : (vals : OperandTypes) (loose : Bool) (t : OperandType) (ts : Operands) → RepOf loose vals (t ∷ ts) → (k : Known) × (drop_one vals loose ≡ Some k) × Rep k ts
drop_complete [] false t ts r = cc
drop_complete [] true t ts r = (knowing [] true, refl, (ts, refl))
drop_complete (v ∷ vals) false t ts r = (knowing vals false, refl, let e : ts ≡ known vals = cc in e)
drop_complete (v ∷ vals) true t ts (any, r) = (knowing vals true, refl, (any, let e : ts ≡ known vals ++ any = cc in e))

nil_rep : (loose : Bool) → RepOf loose [] []
nil_rep loose = rep_vals loose []

if_none_sound : (vals : OperandTypes) (loose : Bool) (k j : Known) → if_none vals k ≡ Some j → RepOf loose vals []
if_none_sound [] loose k j e = nil_rep loose
if_none_sound (v ∷ vals) loose k j e = no e

if_none_complete : (loose : Bool) (vals : OperandTypes) (k : Known) → RepOf loose vals [] → if_none vals k ≡ Some k
if_none_complete loose [] k r = refl
if_none_complete false (v ∷ vals) k r = cc
if_none_complete true (v ∷ vals) k (any, r) = cc

closes_sound : (ps : OperandTypes) (k j : Known) → closes ps k ≡ Some j → Rep k (known ps)
closes_sound ps k j e =
    let (x, f, h) = some_of (off ps k) (λ y. if_none y.vals y) j e in
    rw (append-nil (known ps)) at (off_sound ps k.vals k.loose x [] f (if_none_sound x.vals x.loose x j h))

closes_complete : {os : Operands} (ps : OperandTypes) (k : Known) → Match os ps → Rep k os → (j : Known) × (closes ps k ≡ Some j)
closes_complete {os} ps k m r =
    let (x, f, q) = off_complete m k.vals k.loose [] (subst (RepOf k.loose k.vals) (sym (append-nil os)) r) in
    (x, ap (λ (o : Option Known). on_some o (λ y. if_none y.vals y)) f ∙ if_none_complete x.loose x.vals x q)

rep_split : (loose : Bool) (ps vals : OperandTypes) (ts : Operands) → RepOf loose (ps ++ vals) ts → (below : Operands) × (ts ≡ known ps ++ below) × RepOf loose vals below
rep_split false ps vals ts r = (known vals, r ∙ map-append Of ps vals, refl)
rep_split true ps vals ts (any, r) = (known vals ++ any, r ∙ ap (λ l. l ++ any) (map-append Of ps vals) ∙ append_assoc (known ps) (known vals) any, (any, refl))

module _ (m : Parts) (ls rs : OperandTypes) where
  -- the code has a typing from these operands on, within these open blocks
  data Rests : List Ctl → Operands → List Instr → Type 0 where
    last : {ts us : Operands} {body : List Instr} → Typed m ls rs (rs ∷ []) ts body us → Match us rs → Rests [] ts (body ++ End ∷ [])
    ended : {c : Ctl} {cs : List Ctl} {ts us : Operands} {body after : List Instr} (below : Operands) → Rep c.below below → may_end c.one_arm c.ends ≡ true → Typed m ls rs (labels_of rs (c ∷ cs)) ts body us → Match us c.ends → Rests cs (known c.ends ++ below) after → Rests (c ∷
        cs) ts (body ++ End ∷ after)
    elsed : {c : Ctl} {cs : List Ctl} {ts us vs : Operands} {body second after : List Instr} (below : Operands) → Rep c.below below → c.one_arm ≡ true → Typed m ls rs (labels_of rs (c ∷ cs)) ts body us → Match us c.ends → Typed m ls rs (labels_of rs
        (c ∷ cs)) [] second vs → Match vs c.ends → Rests cs (known c.ends ++ below) after → Rests (c ∷ cs) ts (body ++ Else ∷ (second ++ End ∷ after))

  -- something typed in front
  prepend : {cs : List Ctl} {ts : Operands} {code : List Instr} (to : Operands) (f : List Instr → List Instr) → ((x y : List Instr) → f (x ++ y) ≡ f x ++ y) → ((us : Operands) (rest : List Instr) → Typed m ls rs (labels_of rs cs) ts rest us → Typed m ls rs (labels_of rs cs) to
      (f rest) us) → Rests cs ts code → Rests cs to (f code)
  prepend to f assoc by (last {us = us} {body = body} t k) = subst (Rests [] to) (sym (assoc body (End ∷ []))) (last (by us body t) k)
  prepend to f assoc by (ended {c = c} {cs = cs} {us = us} {body = body} {after = after} below r e t k q) = subst (Rests (c ∷ cs) to) (sym (assoc body (End ∷ after))) (ended below r e (by us body t) k q)
  prepend to f assoc by (elsed {c = c} {cs = cs} {us = us} {body = body} {second = second} {after = after} below r e t k u n q) = subst (Rests (c ∷ cs) to) (sym (assoc body (Else ∷ (second ++ End ∷ after)))) (elsed below r e (by us body t) k u n q)

  record Closed (c : Ctl) (cs : List Ctl) (ts : Operands) (code : List Instr) : Type 0 where
    inner : List Instr
    after : List Instr
    below : Operands
    left : Operands
    split : code ≡ inner ++ End ∷ after
    rep : Rep c.below below
    typed : Typed m ls rs (labels_of rs (c ∷ cs)) ts inner left
    matched : Match left c.ends
    on : Rests cs (known c.ends ++ below) after

  close_block : {c : Ctl} {cs : List Ctl} {ts : Operands} {code : List Instr} → Rests (c ∷ cs) ts code → c.one_arm ≡ false → Closed c cs ts code
  close_block (ended {us = us} {body = body} {after = after} below r e t k q) h = record { inner = body; after = after; below = below; left = us; split = refl; rep = r; typed = t; matched = k; on = q }
  close_block (elsed below r e t k u n q) h = let f : true ≡ false = sym e ∙ h in cc

  abbrev Found : Place → List Instr → Type 0
  Found a code = (ts : Operands) × Rep a.now ts × Rests a.ctls ts code

  abbrev Held : List Instr → Type 0
  Held rest = (b : Place) → Accepts m ls rs b rest → Found b rest

  abbrev goes_on : List Instr → Place → Type 0
  goes_on rest b = Accepts m ls rs b rest

  from_dead : (i : Instr) (rest : List Instr) (a : Place) (to : Operands) → Rep a.now to → ((ts us : Operands) (r : List Instr) → Typed m ls rs (labels_of rs a.ctls) ts r us → Typed m ls rs (labels_of rs a.ctls) to (i ∷ r) us) → Found (record a { now = knowing [] true }) rest → Found a (i ∷ rest)
  from_dead i rest a to r by (ts, q, d) = (to, r, prepend to (λ x. i ∷ x) (λ x y. refl) (λ us y t. by ts us y t) d)

  from_tail : (i : Instr) (rest : List Instr) (a : Place) → Held rest → passes (check_tail rs (tail_effect m i) a) (goes_on rest) (rest ≡ []) → Found a (i ∷ rest)
  from_tail i rest a ih h =
      let (e, he, h1) = found (tail_effect m i) (λ e. only (same_types e.1 rs) (on_some (off e.0 a.now) (λ k. Some (dead a)))) (goes_on rest) (rest ≡ []) h in
      let (same, h2) = allowed (same_types e.1 rs) (on_some (off e.0 a.now) (λ k. Some (dead a))) (goes_on rest) (rest ≡ []) h1 in
      let (k, hk, h3) = found (off e.0 a.now) (λ k. Some (dead a)) (goes_on rest) (rest ≡ []) h2 in
      let is : tail_effect m i ≡ Some (e.0, rs) = he ∙ ap (λ (x : OperandTypes). Some (e.0, x)) (types_eq e.1 rs same) in
      from_dead i rest a (known e.0 ++ known k.vals) (off_sound e.0 a.now.vals a.now.loose k (known k.vals) hk (rep_vals k.loose k.vals)) (λ ts us r t. tail_call (known e.0) (known k.vals) is (match_known e.0) t) (ih (record a { now = knowing [] true }) h3)

  from_plain : (i : Instr) (rest : List Instr) (a : Place) → Held rest → passes (on_some (effect m ls i) (λ e. on_some (off e.0 a.now) (λ k. Some (More (record a { now = put_on e.1 k }))))) (goes_on rest) (rest ≡ []) → Found a (i ∷ rest)
  from_plain i rest a ih h =
      let (e, he, h1) = found (effect m ls i) (λ e. on_some (off e.0 a.now) (λ k. Some (More (record a { now = put_on e.1 k })))) (goes_on rest) (rest ≡ []) h in
      let (k, hk, h2) = found (off e.0 a.now) (λ k. Some (More (record a { now = put_on e.1 k }))) (goes_on rest) (rest ≡ []) h1 in
      let (ts, r, d) = ih (record a { now = put_on e.1 k }) h2 in
      let (below, is, rb) = rep_split k.loose e.1 k.vals ts r in (
        known e.0 ++ below,
        off_sound e.0 a.now.vals a.now.loose k below hk rb,
        prepend (known e.0 ++ below) (λ x. i ∷ x) (λ x y. refl) (λ us y t. plain (known e.0) below he (match_known e.0) (subst (λ z. Typed m ls rs (labels_of rs a.ctls) z y us) is t)) d,
      )

  from_block : (f : Instr) (label ends : OperandTypes) (rest : List Instr) (a : Place) → ((inner r : List Instr) (ts left us : Operands) → Typed m ls rs (label ∷ labels_of rs a.ctls) [] inner left → Match left ends → Typed m ls rs (labels_of rs a.ctls) (known ends ++ ts) r us → Typed m
      ls rs (labels_of rs a.ctls) ts (f ∷ (inner ++ End ∷ r)) us) → Held rest → Accepts m ls rs (record { now = knowing [] false; ctls = record { label = label; ends = ends; one_arm = false; below = a.now } ∷ a.ctls }) rest → Found a (f ∷ rest)
  from_block f label ends rest a by ih h =
      let c : Ctl = record { label = label; ends = ends; one_arm = false; below = a.now } in
      let (ts, r, d) = ih (record { now = knowing [] false; ctls = c ∷ a.ctls }) h in
      let q = close_block d refl in
      let typed = subst (λ z. Typed m ls rs (label ∷ labels_of rs a.ctls) z q.inner q.left) r q.typed in
      let assoc = λ (x y : List Instr). ap (λ z. f ∷ z) (sym (append_assoc q.inner (End ∷ x) y)) in
      (q.below, q.rep, subst (λ z. Rests a.ctls q.below (f ∷ z)) (sym q.split) (prepend q.below (λ x. f ∷ (q.inner ++ End ∷ x)) assoc (λ us y t. by q.inner y q.below q.left us typed q.matched t) q.on))

  no_ends : {os : Operands} → Match os [] → os ≡ []
  no_ends match_none = refl

  from_if : (b : BlockType) (k : Known) (rest : List Instr) (cs : List Ctl) (ts : Operands) → ts ≡ [] → Rests (record { label = left_by b; ends = left_by b; one_arm = true; below = k } ∷ cs) ts rest → (below : Operands) × Rep k below × Rests cs (Of I32 ∷ below) (If b ∷ rest)
  from_if Empty k rest cs ts r (ended {us = us} {body = body} {after = after} below rb e t n q) = (
    below,
    rb,
    prepend (Of I32 ∷ below) (λ x. If Empty ∷ (body ++ End ∷ x)) (λ x y. ap (λ z. If Empty ∷ z) (sym (append_assoc body (End ∷ x) y)))
        (λ vs y u. one_arm (match_same match_none) (subst (λ z. Typed m ls rs ([] ∷ labels_of rs cs) [] body z) (no_ends n) (subst (λ z. Typed m ls rs ([] ∷ labels_of rs cs) z body us) r t)) u) q,
  )
  from_if (Value v) k rest cs ts r (ended below rb e t n q) = cc
  from_if b k rest cs ts r (elsed {us = us} {body = body} {second = second} {after = after} below rb e t n u o q) = (
    below,
    rb,
    prepend (Of I32 ∷ below) (λ x. If b ∷ (body ++ Else ∷ (second ++ End ∷ x))) (λ x y. ap (λ z. If b ∷ z) (ap (λ z. body ++ Else ∷ z) (sym (append_assoc second (End ∷ x) y)) ∙ sym (append_assoc body (Else ∷ (second ++ End ∷ x)) y)))
        (λ vs y w. two_arms (match_same match_none) (subst (λ z. Typed m ls rs (left_by b ∷ labels_of rs cs) z body us) r t) n u o w) q,
  )

  from_else : (now : Known) (cs : List Ctl) (rest : List Instr) → Held rest → passes (check_else now cs) (goes_on rest) (rest ≡ []) → Found (record { now = now; ctls = cs }) (Else ∷ rest)
  from_else now [] rest ih h = absurd h
  from_else now (c ∷ cs) rest ih h =
      let (one, h1) = allowed c.one_arm (on_some (closes c.ends now) (λ k. Some (opened c.label c.ends false c.below cs))) (goes_on rest) (rest ≡ []) h in
      let (k, hk, h2) = found (closes c.ends now) (λ k. Some (opened c.label c.ends false c.below cs)) (goes_on rest) (rest ≡ []) h1 in
      let d : Ctl = record { label = c.label; ends = c.ends; one_arm = false; below = c.below } in
      let (ts, r, w) = ih (record { now = knowing [] false; ctls = d ∷ cs }) h2 in
      let q = close_block w refl in
      let typed = subst (λ z. Typed m ls rs (c.label ∷ labels_of rs cs) z q.inner q.left) r q.typed in
      (known c.ends, closes_sound c.ends now k hk, subst (λ z. Rests (c ∷ cs) (known c.ends) (Else ∷ z)) (sym q.split) (elsed q.below q.rep one done (match_known c.ends) typed q.matched q.on))

  from_end : (now : Known) (cs : List Ctl) (rest : List Instr) → Held rest → passes (check_end rs now cs) (goes_on rest) (rest ≡ []) → Found (record { now = now; ctls = cs }) (End ∷ rest)
  from_end now [] rest ih h =
      let (k, hk, fin) = found (closes rs now) (λ k. Some Finished) (goes_on rest) (rest ≡ []) h in
      (known rs, closes_sound rs now k hk, subst (λ z. Rests [] (known rs) (End ∷ z)) (sym fin) (last done (match_known rs)))
  from_end now (c ∷ cs) rest ih h =
      let after : Place = record { now = put_on c.ends c.below; ctls = cs } in
      let (k, hk, h1) = found (closes c.ends now) (λ k. only (may_end c.one_arm c.ends) (Some (More after))) (goes_on rest) (rest ≡ []) h in
      let (may, h2) = allowed (may_end c.one_arm c.ends) (Some (More after)) (goes_on rest) (rest ≡ []) h1 in
      let (ts, r, d) = ih after h2 in
      let (below, is, rb) = rep_split c.below.loose c.ends c.below.vals ts r in
      (known c.ends, closes_sound c.ends now k hk, ended below rb may done (match_known c.ends) (subst (λ z. Rests cs z rest) is d))

  sound : (code : List Instr) (a : Place) → Accepts m ls rs a code → Found a code
  sound [] a h = absurd h
  sound (Unreachable ∷ rest) a h = from_dead Unreachable rest a (known a.now.vals) (rep_vals a.now.loose a.now.vals) (λ ts us r t. unreachable t) (sound rest (record a { now = knowing [] true }) h)
  sound (Drop ∷ rest) a h =
      let (k, hk, h1) = found (drop_one a.now.vals a.now.loose) (λ k. Some (More (record a { now = k }))) (goes_on rest) (rest ≡ []) h in
      let (ts, r, d) = sound rest (record a { now = k }) h1 in
      let (t, q) = drop_sound a.now.vals a.now.loose k ts hk r in
      (t ∷ ts, q, prepend (t ∷ ts) (λ x. Drop ∷ x) (λ x y. refl) (λ us y u. drop u) d)
  sound (Block b ∷ rest) a h = from_block (Block b) (left_by b) (left_by b) rest a (λ inner r ts left us t n u. block t n u) (sound rest) h
  sound (Loop b ∷ rest) a h = from_block (Loop b) [] (left_by b) rest a (λ inner r ts left us t n u. loop t n u) (sound rest) h
  sound (If b ∷ rest) a h =
      let (k, hk, h1) = found (off (I32 ∷ []) a.now) (λ k. Some (opened (left_by b) (left_by b) true k a.ctls)) (goes_on rest) (rest ≡ []) h in
      let c : Ctl = record { label = left_by b; ends = left_by b; one_arm = true; below = k } in
      let (ts, r, d) = sound rest (record { now = knowing [] false; ctls = c ∷ a.ctls }) h1 in
      let (below, rb, q) = from_if b k rest a.ctls ts r d in
      (Of I32 ∷ below, off_sound (I32 ∷ []) a.now.vals a.now.loose k below hk rb, q)
  sound (Else ∷ rest) a h = from_else a.now a.ctls rest (sound rest) h
  sound (End ∷ rest) a h = from_end a.now a.ctls rest (sound rest) h
  sound (Br l ∷ rest) a h =
      let (lt, hl, h1) = found (slice_get (labels_of rs a.ctls) l) (λ lt. on_some (off lt a.now) (λ k. Some (dead a))) (goes_on rest) (rest ≡ []) h in
      let (k, hk, h2) = found (off lt a.now) (λ k. Some (dead a)) (goes_on rest) (rest ≡ []) h1 in
      from_dead (Br l) rest a (known lt ++ known k.vals) (off_sound lt a.now.vals a.now.loose k (known k.vals) hk (rep_vals k.loose k.vals)) (λ ts us r t. br (known lt) (known k.vals) (record { wanted = lt; found = hl; matched = match_known lt }) t) (sound rest
      (record a { now = knowing [] true }) h2)
  sound (BrIf l ∷ rest) a h =
      let (lt, hl, h1) = found (slice_get (labels_of rs a.ctls) l) (λ lt. on_some (off (I32 ∷ []) a.now) (λ k. on_some (off lt k) (λ j. Some (More (record a { now = put_on lt j }))))) (goes_on rest) (rest ≡ []) h in
      let (k, hk, h2) = found (off (I32 ∷ []) a.now) (λ k. on_some (off lt k) (λ j. Some (More (record a { now = put_on lt j })))) (goes_on rest) (rest ≡ []) h1 in
      let (j, hj, h3) = found (off lt k) (λ j. Some (More (record a { now = put_on lt j }))) (goes_on rest) (rest ≡ []) h2 in
      let (ts, r, d) = sound rest (record a { now = put_on lt j }) h3 in
      let (below, is, rb) = rep_split j.loose lt j.vals ts r in (
        Of I32 ∷ (known lt ++ below),
        off_sound (I32 ∷ []) a.now.vals a.now.loose k (known lt ++ below) hk (off_sound lt k.vals k.loose j below hj rb),
        prepend (Of I32 ∷ (known lt ++ below)) (λ x. BrIf l ∷ x) (λ x y. refl) (λ us y t. br_if (known lt) below (match_same match_none) (record { wanted = lt; found = hl; matched = match_known lt }) (subst (λ z. Typed m ls rs (labels_of rs a.ctls) z y us) is t)) d,
      )
  sound (BrTable l js ∷ rest) a h =
      let labels = labels_of rs a.ctls in
      let (lt, hl, h1) = found (slice_get labels l) (λ lt. on_some (off (I32 ∷ []) a.now) (λ k. on_some (off lt k) (λ j. only (fit_labels labels (length lt) k js) (Some (dead a))))) (goes_on rest) (rest ≡ []) h in
      let (k, hk, h2) = found (off (I32 ∷ []) a.now) (λ k. on_some (off lt k) (λ j. only (fit_labels labels (length lt) k js) (Some (dead a)))) (goes_on rest) (rest ≡ []) h1 in
      let (j, hj, h3) = found (off lt k) (λ j. only (fit_labels labels (length lt) k js) (Some (dead a))) (goes_on rest) (rest ≡ []) h2 in
      let (fit, h4) = allowed (fit_labels labels (length lt) k js) (Some (dead a)) (goes_on rest) (rest ≡ []) h3 in
      let os = pad (length lt) k.vals in
      from_dead (BrTable l js) rest a (Of I32 ∷ (os ++ known j.vals)) (off_sound (I32 ∷ []) a.now.vals a.now.loose k (os ++ known j.vals) hk (pad_rep lt k.vals k.loose j hj))
      (λ ts us r t. br_table os (known j.vals) (match_same match_none) (labels_sound labels (length lt) k js fit) (record { wanted = lt; found = hl; matched = pad_match lt k.vals k.loose j hj }) t)
      (sound rest (record a { now = knowing [] true }) h4)
  sound (Return ∷ rest) a h =
      let (k, hk, h1) = found (off rs a.now) (λ k. Some (dead a)) (goes_on rest) (rest ≡ []) h in
      from_dead Return rest a (known rs ++ known k.vals) (off_sound rs a.now.vals a.now.loose k (known k.vals) hk (rep_vals k.loose k.vals)) (λ ts us r t. return (known rs) (known k.vals) (match_known rs) t) (sound rest (record a { now = knowing [] true }) h1)
  sound (Nop ∷ rest) a h = from_plain Nop rest a (sound rest) h
  sound (Call f ∷ rest) a h = from_plain (Call f) rest a (sound rest) h
  sound (CallIndirect index table ∷ rest) a h = from_plain (CallIndirect index table) rest a (sound rest) h
  sound (ReturnCall f ∷ rest) a h = from_tail (ReturnCall f) rest a (sound rest) h
  sound (ReturnCallIndirect index table ∷ rest) a h = from_tail (ReturnCallIndirect index table) rest a (sound rest) h
  sound (LocalGet x ∷ rest) a h = from_plain (LocalGet x) rest a (sound rest) h
  sound (LocalSet x ∷ rest) a h = from_plain (LocalSet x) rest a (sound rest) h
  sound (LocalTee x ∷ rest) a h = from_plain (LocalTee x) rest a (sound rest) h
  sound (GlobalGet x ∷ rest) a h = from_plain (GlobalGet x) rest a (sound rest) h
  sound (GlobalSet x ∷ rest) a h = from_plain (GlobalSet x) rest a (sound rest) h
  sound (I32Load x ∷ rest) a h = from_plain (I32Load x) rest a (sound rest) h
  sound (I32Load8U x ∷ rest) a h = from_plain (I32Load8U x) rest a (sound rest) h
  sound (I32Store x ∷ rest) a h = from_plain (I32Store x) rest a (sound rest) h
  sound (I32Store8 x ∷ rest) a h = from_plain (I32Store8 x) rest a (sound rest) h
  sound (MemorySize ∷ rest) a h = from_plain MemorySize rest a (sound rest) h
  sound (MemoryGrow ∷ rest) a h = from_plain MemoryGrow rest a (sound rest) h
  sound (I32Const n ∷ rest) a h = from_plain (I32Const n) rest a (sound rest) h
  sound (I64Const n ∷ rest) a h = from_plain (I64Const n) rest a (sound rest) h
  sound (Operation op ∷ rest) a h = from_plain (Operation op) rest a (sound rest) h

  -- the other half: what has a typing is passed
  check_plain : (i : Instr) (a : Place) (e : Effect) → effect m ls i ≡ Some e → check m ls rs i a ≡ on_some (effect m ls i) (λ e. on_some (off e.0 a.now) (λ k. Some (More (record a { now = put_on e.1 k }))))
  check_plain Nop a e h = refl
  check_plain (Call f) a e h = refl
  check_plain (CallIndirect index table) a e h = refl
  check_plain (LocalGet x) a e h = refl
  check_plain (LocalSet x) a e h = refl
  check_plain (LocalTee x) a e h = refl
  check_plain (GlobalGet x) a e h = refl
  check_plain (GlobalSet x) a e h = refl
  check_plain (I32Load x) a e h = refl
  check_plain (I32Load8U x) a e h = refl
  check_plain (I32Store x) a e h = refl
  check_plain (I32Store8 x) a e h = refl
  check_plain MemorySize a e h = refl
  check_plain MemoryGrow a e h = refl
  check_plain (I32Const n) a e h = refl
  check_plain (I64Const n) a e h = refl
  check_plain (Operation op) a e h = refl
  check_plain _ a e h = no h

  check_tail_is : (i : Instr) (a : Place) (e : Effect) → tail_effect m i ≡ Some e → check m ls rs i a ≡ check_tail rs (tail_effect m i) a
  check_tail_is (ReturnCall f) a e h = refl
  check_tail_is (ReturnCallIndirect index table) a e h = refl
  check_tail_is _ a e h = no h

  -- the end of an inner block, and what comes after it
  inner_end : (c : Ctl) (cs : List Ctl) (us : Operands) (rest : List Instr) → Match us c.ends → may_end c.one_arm c.ends ≡ true → Accepts m ls rs (record { now = put_on c.ends c.below; ctls = cs }) rest → (k : Known) → Rep k us → Accepts m ls rs (record { now = k; ctls = c ∷ cs }) (End ∷ rest)
  inner_end c cs us rest e may on k r =
      let (j, hj) = closes_complete c.ends k e r in
      let after : Place = record { now = put_on c.ends c.below; ctls = cs } in
      let p = ap (λ (o : Option Known). on_some o (λ k. only (may_end c.one_arm c.ends) (Some (More after)))) hj ∙ ap (λ b. only b (Some (More after))) may in
      subst (λ (o : Option Check). passes o (goes_on rest) (rest ≡ [])) (sym p) on

  forward : {labels : List OperandTypes} {ts us : Operands} {body : List Instr} → Typed m ls rs labels ts body us → (a : Place) → labels_of rs a.ctls ≡ labels → Rep a.now ts → (tail : List Instr) →
      ((k : Known) → Rep k us → Accepts m ls rs (record a { now = k }) tail) → Accepts m ls rs a (body ++ tail)
  forward done a e r tail on = on a.now r
  forward (plain {pops = pops} {pushes = pushes} os ts {i = i} {rest = rest} he ma t) a e r tail on =
      let (k, hk, rk) = off_complete ma a.now.vals a.now.loose ts r in
      let next = λ (x : Effect). on_some (off x.0 a.now) (λ k. Some (More (record a { now = put_on x.1 k }))) in
      let p = check_plain i a (pops, pushes) he ∙ ap (λ (o : Option Effect). on_some o next) he ∙ ap (λ (o : Option Known). on_some o (λ k. Some (More (record a { now = put_on pushes k })))) hk in
      subst (λ (o : Option Check). passes o (goes_on (rest ++ tail)) (rest ++ tail ≡ [])) (sym p)
      (forward t (record a { now = put_on pushes k }) e (rep_put k.loose pushes k.vals ts rk) tail on)
  forward (drop {t = t} {ts = ts} {rest = rest} d) a e r tail on =
      let (k, hk, rk) = drop_complete a.now.vals a.now.loose t ts r in
      subst (λ (o : Option Check). passes o (goes_on (rest ++ tail)) (rest ++ tail ≡ [])) (sym (ap (λ (o : Option Known). on_some o (λ k. Some (More (record a { now = k })))) hk))
      (forward d (record a { now = k }) e rk tail on)
  forward (unreachable {any = any} t) a e r tail on = forward t (record a { now = knowing [] true }) e (any, refl) tail on
  forward (block {ts = ts} {ends = ends} {b = b} {body = body} {rest = rest} tb ma td) a e r tail on =
      let c : Ctl = record { label = left_by b; ends = left_by b; one_arm = false; below = a.now } in
      subst (Accepts m ls rs (record { now = knowing [] false; ctls = c ∷ a.ctls })) (sym (append_assoc body (End ∷ rest) tail))
      (forward tb (record { now = knowing [] false; ctls = c ∷ a.ctls }) (ap (λ x. left_by b ∷ x) e) refl (End ∷ (rest ++ tail))
      (inner_end c a.ctls ends (rest ++ tail) ma refl (forward td (record a { now = put_on (left_by b) a.now }) e (rep_put a.now.loose (left_by b) a.now.vals ts r) tail on)))
  forward (loop {ts = ts} {ends = ends} {b = b} {body = body} {rest = rest} tb ma td) a e r tail on =
      let c : Ctl = record { label = []; ends = left_by b; one_arm = false; below = a.now } in
      subst (Accepts m ls rs (record { now = knowing [] false; ctls = c ∷ a.ctls })) (sym (append_assoc body (End ∷ rest) tail))
      (forward tb (record { now = knowing [] false; ctls = c ∷ a.ctls }) (ap (λ x. [] ∷ x) e) refl (End ∷ (rest ++ tail))
      (inner_end c a.ctls ends (rest ++ tail) ma refl (forward td (record a { now = put_on (left_by b) a.now }) e (rep_put a.now.loose (left_by b) a.now.vals ts r) tail on)))
  forward (one_arm {ts = ts} {body = body} {rest = rest} co tb td) a e r tail on =
      let (k, hk, rk) = off_complete co a.now.vals a.now.loose ts r in
      let c : Ctl = record { label = []; ends = []; one_arm = true; below = k } in
      subst (λ (o : Option Check). passes o (goes_on ((body ++ End ∷ rest) ++ tail)) ((body ++ End ∷ rest) ++ tail ≡ [])) (sym (ap (λ (o : Option Known). on_some o (λ k. Some (opened [] [] true k a.ctls))) hk))
      (subst (Accepts m ls rs (record { now = knowing [] false; ctls = c ∷ a.ctls })) (sym (append_assoc body (End ∷ rest) tail))
      (forward tb (record { now = knowing [] false; ctls = c ∷ a.ctls }) (ap (λ x. [] ∷ x) e) refl (End ∷ (rest ++ tail))
      (inner_end c a.ctls [] (rest ++ tail) match_none refl (forward td (record a { now = k }) e rk tail on))))
  forward (two_arms {ts = ts} {first_ends = first_ends} {second_ends = second_ends} {b = b} {first = first} {second = second} {rest = rest} co ta ma tb mb td) a e r tail on =
      let (k, hk, rk) = off_complete co a.now.vals a.now.loose ts r in
      let c : Ctl = record { label = left_by b; ends = left_by b; one_arm = true; below = k } in
      let d : Ctl = record { label = left_by b; ends = left_by b; one_arm = false; below = k } in
      let late = subst (Accepts m ls rs (record { now = knowing [] false; ctls = d ∷ a.ctls })) (sym (append_assoc second (End ∷ rest) tail))
      (forward tb (record { now = knowing [] false; ctls = d ∷ a.ctls }) (ap (λ x. left_by b ∷ x) e) refl (End ∷ (rest ++ tail))
      (inner_end d a.ctls second_ends (rest ++ tail) mb refl (forward td (record a { now = put_on (left_by b) k }) e (rep_put k.loose (left_by b) k.vals ts rk) tail on))) in
      subst (λ (o : Option Check). passes o (goes_on ((first ++ Else ∷ (second ++ End ∷ rest)) ++ tail)) ((first ++ Else ∷ (second ++ End ∷ rest)) ++ tail ≡ [])) (sym (ap (λ (o : Option Known). on_some o (λ k. Some (opened (left_by b) (left_by b) true k a.ctls))) hk))
      (subst (Accepts m ls rs (record { now = knowing [] false; ctls = c ∷ a.ctls })) (sym (append_assoc first (Else ∷ (second ++ End ∷ rest)) tail))
      (forward ta (record { now = knowing [] false; ctls = c ∷ a.ctls }) (ap (λ x. left_by b ∷ x) e) refl (Else ∷ ((second ++ End ∷ rest) ++ tail))
      (λ j rj.
      let (q, hq) = closes_complete (left_by b) j ma rj in
      subst (λ (o : Option Check). passes o (goes_on ((second ++ End ∷ rest) ++ tail)) ((second ++ End ∷ rest) ++ tail ≡ [])) (sym (ap (λ (o : Option Known). on_some o (λ k. Some (opened (left_by b) (left_by b) false c.below a.ctls))) hq)) late)))
  forward (br {any = any} os ts {l = l} {rest = rest} rc t) a e r tail on =
      let lt = rc.wanted in
      let hl = rc.found in
      let (k, hk, rk) = off_complete rc.matched a.now.vals a.now.loose ts r in
      let p = ap (λ (ss : List OperandTypes). on_some (slice_get ss l) (λ lt. on_some (off lt a.now) (λ k. Some (dead a)))) e ∙ ap (λ (o : Option OperandTypes). on_some o (λ lt. on_some (off lt a.now) (λ k. Some (dead a)))) hl ∙ ap (λ (o : Option Known). on_some o (λ k. Some (dead a))) hk in
      subst (λ (o : Option Check). passes o (goes_on (rest ++ tail)) (rest ++ tail ≡ [])) (sym p) (forward t (record a { now = knowing [] true }) e (any, refl) tail on)
  forward (br_if os ts {l = l} {rest = rest} co rc t) a e r tail on =
      let lt = rc.wanted in
      let hl = rc.found in
      let (k, hk, rk) = off_complete co a.now.vals a.now.loose (os ++ ts) r in
      let (j, hj, rj) = off_complete rc.matched k.vals k.loose ts rk in
      let last = λ (lt : OperandTypes) (j : Known). Some (More (record a { now = put_on lt j })) in
      let p = ap (λ (ss : List OperandTypes). on_some (slice_get ss l) (λ lt. on_some (off (I32 ∷ []) a.now) (λ k. on_some (off lt k) (last lt)))) e ∙ ap (λ (o : Option OperandTypes). on_some o (λ lt. on_some (off (I32 ∷ []) a.now) (λ k. on_some (off lt k) (last lt)))) hl ∙ ap (λ
      (o : Option Known). on_some o (λ k. on_some (off lt k) (last lt))) hk ∙ ap (λ (o : Option Known). on_some o (last lt)) hj in
      subst (λ (o : Option Check). passes o (goes_on (rest ++ tail)) (rest ++ tail ≡ [])) (sym p) (forward t (record a { now = put_on lt j }) e (rep_put j.loose lt j.vals ts rj) tail on)
  forward (br_table {labels = labels} {any = any} os ts {ls = js} {l = l} {rest = rest} co rl rc t) a e r tail on =
      let lt = rc.wanted in
      let hl = rc.found in
      let (k, hk, rk) = off_complete co a.now.vals a.now.loose (os ++ ts) r in
      let (j, hj, rj) = off_complete rc.matched k.vals k.loose ts rk in
      let fit = labels_complete labels os ts (length lt) k (match_length rc.matched) rk js rl in
      let p =
      ap (λ (ss : List OperandTypes). on_some (slice_get ss l) (λ lt. on_some (off (I32 ∷ []) a.now) (λ k. on_some (off lt k) (λ j. only (fit_labels ss (length lt) k js) (Some (dead a)))))) e
      ∙ ap (λ (o : Option OperandTypes). on_some o (λ lt. on_some (off (I32 ∷ []) a.now) (λ k. on_some (off lt k) (λ j. only (fit_labels labels (length lt) k js) (Some (dead a)))))) hl
      ∙ ap (λ (o : Option Known). on_some o (λ k. on_some (off lt k) (λ j. only (fit_labels labels (length lt) k js) (Some (dead a))))) hk
      ∙ ap (λ (o : Option Known). on_some o (λ j. only (fit_labels labels (length lt) k js) (Some (dead a)))) hj
      ∙ ap (λ (x : Bool). only x (Some (dead a))) fit in
      subst (λ (o : Option Check). passes o (goes_on (rest ++ tail)) (rest ++ tail ≡ [])) (sym p) (forward t (record a { now = knowing [] true }) e (any, refl) tail on)
  forward (return {any = any} os ts {rest = rest} ma t) a e r tail on =
      let (k, hk, rk) = off_complete ma a.now.vals a.now.loose ts r in
      subst (λ (o : Option Check). passes o (goes_on (rest ++ tail)) (rest ++ tail ≡ [])) (sym (ap (λ (o : Option Known). on_some o (λ k. Some (dead a))) hk)) (forward t (record a { now = knowing [] true }) e (any, refl) tail on)
  forward (tail_call {any = any} {pops = pops} os ts {i = i} {rest = rest} he ma t) a e r tail on =
      let (k, hk, rk) = off_complete ma a.now.vals a.now.loose ts r in
      let p =
      check_tail_is i a (pops, rs) he
      ∙ ap (λ (o : Option Effect). check_tail rs o a) he
      ∙ ap (λ (x : Bool). only x (on_some (off pops a.now) (λ k. Some (dead a)))) (types_same rs)
      ∙ ap (λ (o : Option Known). on_some o (λ k. Some (dead a))) hk in
      subst (λ (o : Option Check). passes o (goes_on (rest ++ tail)) (rest ++ tail ≡ [])) (sym p) (forward t (record a { now = knowing [] true }) e (any, refl) tail on)

  -- exactness: the pass goes through where there is a typing, and only there
  typed_accepts : (code : List Instr) → TypedBody m ls rs code → Accepts m ls rs outset code
  typed_accepts code t =
      subst (Accepts m ls rs outset) (sym t.ends)
      (forward t.typed outset refl refl (End ∷ [])
      (λ k r. let (j, hj) = closes_complete rs k t.matched r in
      subst (λ (o : Option Check). passes o (goes_on []) (◌≡◌ {A = List Instr} [] [])) (sym (ap (λ (o : Option Known). on_some o (λ k. Some Finished)) hj)) (refl {0})))

  rests_typed : {ts : Operands} {code : List Instr} → Rests [] ts code → ts ≡ [] → TypedBody m ls rs code
  rests_typed (last {us = us} {body = body} t k) e = record { body = body; ends = refl; left = us; typed = subst (λ z. Typed m ls rs (rs ∷ []) z body us) e t; matched = k }

  accepts_typed : (code : List Instr) → Accepts m ls rs outset code → TypedBody m ls rs code
  accepts_typed code h = let (ts, r, q) = sound code outset h in rests_typed q r

  -- the same as a run of the pass
  pub run_none : (code : List Instr) → run m ls rs None code ≡ None
  run_none [] = refl
  run_none (i ∷ rest) = run_none rest

  not_none : (c : Check) → ◌≡◌ {A = Option Check} None (Some c) → ⊥
  not_none c e = no e

  not_more : (a : Place) → More a ≡ Finished → ⊥
  not_more a e = cc

  accepts_on : (o : Option Check) (rest : List Instr) → ((b : Place) → Accepts m ls rs b rest → run m ls rs (Some (More b)) rest ≡ Some Finished) → passes o (goes_on rest) (rest ≡ []) → run m ls rs o rest ≡ Some Finished
  accepts_on None rest ih h = absurd h
  accepts_on (Some Finished) rest ih h = ap (run m ls rs (Some Finished)) h
  accepts_on (Some (More b)) rest ih h = ih b h

  accepts_run : (code : List Instr) (a : Place) → Accepts m ls rs a code → run m ls rs (Some (More a)) code ≡ Some Finished
  accepts_run [] a h = absurd h
  accepts_run (i ∷ rest) a h = accepts_on (check m ls rs i a) rest (accepts_run rest) h

  finished_run : (rest : List Instr) → run m ls rs (Some Finished) rest ≡ Some Finished → rest ≡ []
  finished_run [] h = refl
  finished_run (i ∷ rest) h = absurd (not_none Finished (sym (run_none rest) ∙ h))

  run_on : (o : Option Check) (rest : List Instr) → ((b : Place) → run m ls rs (Some (More b)) rest ≡ Some Finished → Accepts m ls rs b rest) → run m ls rs o rest ≡ Some Finished → passes o (goes_on rest) (rest ≡ [])
  run_on None rest ih h = absurd (not_none Finished (sym (run_none rest) ∙ h))
  run_on (Some Finished) rest ih h = finished_run rest h
  run_on (Some (More b)) rest ih h = ih b h

  run_accepts : (code : List Instr) (a : Place) → run m ls rs (Some (More a)) code ≡ Some Finished → Accepts m ls rs a code
  run_accepts [] a h = absurd (not_more a (same_Some _ _ h))
  run_accepts (i ∷ rest) a h = run_on (check m ls rs i a) rest (run_accepts rest) h

  pub run-append : (xs ys : List Instr) (o : Option Check) → run m ls rs o (xs ++ ys) ≡ run m ls rs (run m ls rs o xs) ys
  run-append [] ys o = refl
  run-append (x ∷ xs) ys o = run-append xs ys (one m ls rs o x)

  -- from each place there is a way to the end
  shut : Bool → List Instr → List Instr
  shut true rest = Unreachable ∷ Else ∷ Unreachable ∷ End ∷ rest
  shut false rest = Unreachable ∷ End ∷ rest

  ending : List Ctl → List Instr
  ending [] = Unreachable ∷ End ∷ []
  ending (c ∷ cs) = shut c.one_arm (ending cs)

  shut_passes : (b : Bool) (c : Ctl) (cs : List Ctl) (rest : List Instr) → c.one_arm ≡ b → Accepts m ls rs (record { now = put_on c.ends c.below; ctls = cs }) rest → (now : Known) → Accepts m ls rs (record { now = now; ctls = c ∷ cs }) (shut b rest)
  unfolding shut
  shut_passes false c cs rest e on now =
      inner_end c cs (known c.ends) rest (match_known c.ends) (ap (λ b. may_end b c.ends) e) on (knowing [] true) (known c.ends, refl)
  shut_passes true c cs rest e on now =
      let d : Ctl = record { label = c.label; ends = c.ends; one_arm = false; below = c.below } in
      let (q, hq) = closes_complete c.ends (knowing [] true) (match_known c.ends) (known c.ends, refl) in
      let p = ap (λ b. only b (on_some (closes c.ends (knowing [] true)) (λ k. Some (opened c.label c.ends false c.below cs)))) e ∙ ap (λ (o : Option Known). on_some o (λ k. Some (opened c.label c.ends false c.below cs))) hq in
      subst (λ (o : Option Check). passes o (goes_on (Unreachable ∷ End ∷ rest)) (Unreachable ∷ End ∷ rest ≡ [])) (sym p)
      (inner_end d cs (known c.ends) rest (match_known c.ends) refl on (knowing [] true) (known c.ends, refl))

  ending_passes : (cs : List Ctl) (now : Known) → Accepts m ls rs (record { now = now; ctls = cs }) (ending cs)
  unfolding ending
  ending_passes [] now =
      let (j, hj) = closes_complete rs (knowing [] true) (match_known rs) (known rs, refl) in
      subst (λ (o : Option Check). passes o (goes_on []) (◌≡◌ {A = List Instr} [] [])) (sym (ap (λ (o : Option Known). on_some o (λ k. Some Finished)) hj)) (refl {0})
  ending_passes (c ∷ cs) now = shut_passes c.one_arm c cs (ending cs) refl (ending_passes cs (put_on c.ends c.below)) now

  -- what the pass says of a body, and of a part of one
  pub run_typed : (code : List Instr) → run m ls rs (Some (More outset)) code ≡ Some Finished → TypedBody m ls rs code
  run_typed code h = accepts_typed code (run_accepts code outset h)

  pub typed_run : (code : List Instr) → TypedBody m ls rs code → run m ls rs (Some (More outset)) code ≡ Some Finished
  typed_run code t = accepts_run code outset (typed_accepts code t)

  pub viable_run : (front : List Instr) → CanGoOn m ls rs front → run m ls rs (Some (More outset)) front ≡ None → ⊥
  viable_run front (more, t) h =
      not_none Finished (sym (run_none more) ∙ ap (λ o. run m ls rs o more) (sym h) ∙ sym (run-append front more (Some (More outset))) ∙ typed_run (front ++ more) t)

  pub run_viable : (front : List Instr) (c : Check) → run m ls rs (Some (More outset)) front ≡ Some c → CanGoOn m ls rs front
  run_viable front Finished h = ([], run_typed (front ++ []) (run-append front [] (Some (More outset)) ∙ h))
  run_viable front (More b) h =
      (ending b.ctls, run_typed (front ++ ending b.ctls) (run-append front (ending b.ctls) (Some (More outset)) ∙ ap (λ o. run m ls rs o (ending b.ctls)) h ∙ accepts_run (ending b.ctls) b (ending_passes b.ctls b.now)))

  start : Option Check
  start = Some (More outset)

  -- one more instruction
  pub next_run : (code : List Instr) (at : ℕ) (a : Place) (o : Option Check) → run m ls rs (Some (More outset)) (take at code) ≡ Some (More a) → at < length code → check m ls rs (get_or code at Unreachable) a ≡ o → run m ls rs (Some (More outset)) (take (at + 1) code) ≡ o
  next_run code at a o r lt e =
      ap (run m ls rs (Some (More outset))) (take_more code at Unreachable lt)
      ∙ run-append (take at code) (get_or code at Unreachable ∷ []) (Some (More outset))
      ∙ ap (λ x. run m ls rs x (get_or code at Unreachable ∷ [])) r ∙ e

  pub past_finished : (code : List Instr) (at : ℕ) → run m ls rs (Some (More outset)) (take at code) ≡ Some Finished → at < length code → run m ls rs (Some (More outset)) (take (at + 1) code) ≡ None
  past_finished code at r lt =
      ap (run m ls rs (Some (More outset))) (take_more code at Unreachable lt)
      ∙ run-append (take at code) (get_or code at Unreachable ∷ []) (Some (More outset))
      ∙ ap (λ x. run m ls rs x (get_or code at Unreachable ∷ [])) r
