-- Operands that are taken off one after another.
use Rattle.std.proofs.Common.{◌≡◌, ℕ, ◌+◌, ◌-◌, ◌<◌, ◌≤◌, List, [], ◌∷◌, length, take, reverse, get_or, Option, Some, None, Bool, true, false, refl, ap, sym, ◌∙◌, arith}
use Rattle.std.proofs.lemmas.List.{take_more, reverse-append}
use Rattle.wasm_core.specs.declared.types.ValType.{ValType}
use Rattle.wasm_core.specs.MachineStep.{on_some, same_types}
use Rattle.wasm_core.specs.ModuleTyping.{OperandTypes}
use Rattle.std.specs.Prelude.{MatchBool}
use Rattle.wasm_core.specs.Pass.{Known, Ctl, Place, More, check_tail, dead, knowing, off, only, put_on, same, take_off}
use Rattle.wasm_validate.specs.Applied.{applied}

only_on : (b : Bool) (k : Known) (ps : OperandTypes) → only b (off ps k) ≡ on_some (only b (Some k)) (off ps)
only_on true k ps = refl
only_on false k ps = refl

-- the first, and then the others
pub off_cons : (p : ValType) (ps vals : OperandTypes) (loose : Bool) → take_off (p ∷ ps) vals loose ≡ on_some (take_off (p ∷ []) vals loose) (off ps)
off_cons p ps [] false = refl
off_cons p [] [] true = refl
off_cons p (q ∷ ps) [] true = refl
off_cons p ps (v ∷ vals) loose = only_on (same p v) (knowing vals loose) ps

-- a list of types whose last is taken off first
last_first : (ps : OperandTypes) (at : ℕ) (d : ValType) → 0 < at → at ≤ length ps → reverse (take at ps) ≡ get_or ps (at - 1) d ∷ reverse (take (at - 1) ps)
last_first ps at d some le =
    let lt : at - 1 < length ps = omega arith in
    let n : at - 1 + 1 ≡ at = omega arith in
    ap (λ i. reverse (take i ps)) (sym n) ∙ ap reverse (take_more ps (at - 1) d lt) ∙ reverse-append (take (at - 1) ps) (get_or ps (at - 1) d ∷ [])

-- the last of the parameters is taken off first
pub took : (ps : OperandTypes) (at : ℕ) (k j : Known) (d : ValType) → 0 < at → at ≤ length ps → off (get_or ps (at - 1) d ∷ []) k ≡ Some j → off (reverse (take at ps)) k ≡ off (reverse (take (at - 1) ps)) j
took ps at k j d some le h =
    let p = get_or ps (at - 1) d in
    ap (λ xs. off xs k) (last_first ps at d some le)
    ∙ off_cons p (reverse (take (at - 1) ps)) k.vals k.loose ∙ ap (λ (o : Option Known). on_some o (off (reverse (take (at - 1) ps)))) h

-- where it isn't there, none of them are
pub took_none : (ps : OperandTypes) (at : ℕ) (k : Known) (d : ValType) → 0 < at → at ≤ length ps → off (get_or ps (at - 1) d ∷ []) k ≡ None → off (reverse (take at ps)) k ≡ None
took_none ps at k d some le h =
    let p = get_or ps (at - 1) d in
    ap (λ xs. off xs k) (last_first ps at d some le)
    ∙ off_cons p (reverse (take (at - 1) ps)) k.vals k.loose ∙ ap (λ (o : Option Known). on_some o (off (reverse (take (at - 1) ps)))) h

-- in loose code all are there
pub off_loose : (ps : OperandTypes) (at : ℕ) (k : Known) (d : ValType) → 0 < at → at ≤ length ps → k.vals ≡ [] → k.loose ≡ true → off (reverse (take at ps)) k ≡ Some k
off_loose ps at k d some le e l = ap (λ xs. off xs k) (last_first ps at d some le) ∙ by k.vals k.loose e l
  where
    by : (vals : OperandTypes) (loose : Bool) → vals ≡ [] → loose ≡ true → take_off (get_or ps (at - 1) d ∷ reverse (take (at - 1) ps)) vals loose ≡ Some (knowing vals loose)
    by [] true e l = refl
    by [] false e l = cc
    by (v ∷ vals) loose e l = cc

-- elsewhere none
pub off_none : (ps : OperandTypes) (at : ℕ) (k : Known) (d : ValType) → 0 < at → at ≤ length ps → k.vals ≡ [] → k.loose ≡ false → off (reverse (take at ps)) k ≡ None
off_none ps at k d some le e l = ap (λ xs. off xs k) (last_first ps at d some le) ∙ by k.vals k.loose e l
  where
    by : (vals : OperandTypes) (loose : Bool) → vals ≡ [] → loose ≡ false → take_off (get_or ps (at - 1) d ∷ reverse (take (at - 1) ps)) vals loose ≡ None
    by [] false e l = refl
    by [] true e l = cc
    by (v ∷ vals) loose e l = cc

-- the answer where no operand is known
pub off_where_empty : (ps : OperandTypes) (at : ℕ) (k : Known) (d : ValType) → 0 < at → at ≤ length ps → k.vals ≡ [] → (b : Bool) → b ≡ k.loose → (o : Option Known) → off (reverse (take at ps)) k ≡ o → MatchBool b (o ≡ Some k) (o ≡ None)
off_where_empty ps at k d some le e true l o h = sym h ∙ off_loose ps at k d some le e (sym l)
off_where_empty ps at k d some le e false l o h = sym h ∙ off_none ps at k d some le e (sym l)

-- an effect whose first operand has been taken off
pub applied_more : (p : ValType) (ps rs : OperandTypes) (a b : Place) → off (p ∷ []) a.now ≡ Some b.now → b.ctls ≡ a.ctls → applied (Some (p ∷ ps, rs)) a ≡ applied (Some (ps, rs)) b
applied_more p ps rs a b h e =
    ap (λ (o : Option Known). on_some o (λ k. Some (More (record a { now = put_on rs k })))) (off_cons p ps a.now.vals a.now.loose ∙ ap (λ (o : Option Known). on_some o (off ps)) h)
    ∙ ap (λ (cs : List Ctl). on_some (off ps b.now) (λ k. Some (More (record { now = put_on rs k; ctls = cs })))) (sym e)

pub applied_none : (p : ValType) (ps rs : OperandTypes) (a : Place) → off (p ∷ []) a.now ≡ None → applied (Some (p ∷ ps, rs)) a ≡ None
applied_none p ps rs a h =
    ap (λ (o : Option Known). on_some o (λ k. Some (More (record a { now = put_on rs k })))) (off_cons p ps a.now.vals a.now.loose ∙ ap (λ (o : Option Known). on_some o (off ps)) h)

-- a tail call whose first operand has been taken off
pub tail_more : (p : ValType) (ps rs own : OperandTypes) (a b : Place) → off (p ∷ []) a.now ≡ Some b.now → b.ctls ≡ a.ctls → check_tail own (Some (p ∷ ps, rs)) a ≡ check_tail own (Some (ps, rs)) b
tail_more p ps rs own a b h e =
    ap (λ (o : Option Known). only (same_types rs own) (on_some o (λ k. Some (dead a)))) (off_cons p ps a.now.vals a.now.loose ∙ ap (λ (o : Option Known). on_some o (off ps)) h)
    ∙ ap (λ (cs : List Ctl). only (same_types rs own) (on_some (off ps b.now) (λ k. Some (More (record { now = knowing [] true; ctls = cs }))))) (sym e)
