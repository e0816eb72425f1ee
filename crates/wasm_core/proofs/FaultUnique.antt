-- A module without a typing fails first at one place.
use Rattle.std.proofs.Common.{◌≡◌, ℕ, ◌+◌, ◌<◌, ◌≤◌, List, ◌++◌, take, drop, Some, refl, ap, sym, ◌∙◌, subst, append_assoc, arith, ⊎_elim}
use Rattle.std.proofs.lemmas.Bool.{cases_lt}
use Rattle.std.proofs.lemmas.List.{take-append-drop, take-take}
use Rattle.wasm_core.specs.declared.instrs.Instr.{Instr}
use Rattle.wasm_core.specs.Parts.{Parts}
use Rattle.wasm_core.specs.ModuleTyping.{OperandTypes, TypedBody, TypedFunc, Part, id_of, IsSound, results_of}
use Rattle.wasm_core.specs.FirstFault.{CanGoOn, IsFaultAt, outside, inside, TypedBelow, counted}
use Rattle.wasm_core.specs.declared.types.FuncType.{FuncType}
use Rattle.wasm_core.specs.declared.instrs.Body.{Body}
use Rattle.std.specs.Prelude.{slice_get}
use Rattle.std.proofs.lemmas.Option.{same_Some}
use Rattle.wasm_core.specs.Laws.{FaultPlaceIsUnique, FrontsCanGoOn, FirstFaultIsUnique, FirstFaultIsFault}

pub front_goes_on : FrontsCanGoOn
front_goes_on m ls rs front more (rest, t) = (more ++ rest, subst (TypedBody m ls rs) (append_assoc front more rest) t)

module _ (m : Parts) (ls rs : OperandTypes) (code : List Instr) where
  earlier : (p q : ℕ) → p ≤ q → CanGoOn m ls rs (take q code) → CanGoOn m ls rs (take p code)
  earlier p q le v =
      let e : take p (take q code) ++ drop p (take q code) ≡ take q code = take-append-drop p (take q code) in
      front_goes_on m ls rs (take p code) (drop p (take q code)) (subst (CanGoOn m ls rs) (sym e ∙ ap (λ l. l ++ drop p (take q code)) (take-take p q code le)) v)

clash : (m : Parts) (ls rs : OperandTypes) (code : List Instr) (p q : ℕ) → IsFaultAt m ls rs code p → IsFaultAt m ls rs code q → p < q → ⊥
clash m ls rs code p q a b lt = a.here (earlier m ls rs code (p + 1) q (omega arith) b.before)

pub fault_place_unique : FaultPlaceIsUnique
fault_place_unique m ls rs code p q a b = ⊎_elim (λ lt. absurd (clash m ls rs code p q a b lt)) (λ le. ⊎_elim (λ lt. absurd (clash m ls rs code q p b a lt)) (λ ge. omega arith) (cases_lt q p)) (cases_lt p q)

-- a body that fails has no typing
untyped : (m : Parts) (ls rs : OperandTypes) (code : List Instr) (p : ℕ) → IsFaultAt m ls rs code p → TypedBody m ls rs code → ⊥
untyped m ls rs code p a t =
    a.here (drop (p + 1) code, subst (TypedBody m ls rs) (sym (take-append-drop (p + 1) code)) t)

untyped_func : (m : Parts) (p index : ℕ) (type : FuncType) (b : Body) → slice_get m.types index ≡ Some type → IsFaultAt m (type.params ++ b.locals) (results_of type) b.code p → TypedFunc m index b → ⊥
untyped_func m p index type b e a t =
    let same : type ≡ t.type = same_Some _ _ (sym e ∙ t.found) in
    untyped m (type.params ++ b.locals) (results_of type) b.code p a (subst (λ (u : FuncType). TypedBody m (u.params ++ b.locals) (results_of u) b.code) (sym same) t.typed)

same_id : (p q : Part) → id_of p < id_of q → id_of q < id_of p → ⊥
same_id p q a b = omega arith

outside_unique : (m : Parts) (p q : Part) → (IsSound p m → ⊥) → (IsSound q m → ⊥) → ((r : Part) → id_of r < id_of p → IsSound r m) → ((r : Part) → id_of r < id_of q → IsSound r m) → id_of p ≡ id_of q
outside_unique m p q np nq sp sq =
    ⊎_elim (λ lt. absurd (np (sq p lt))) (λ le. ⊎_elim (λ lt. absurd (nq (sp q lt))) (λ ge. omega arith) (cases_lt (id_of q) (id_of p))) (cases_lt (id_of p) (id_of q))

inside_unique : (m : Parts) (f g i j p q : ℕ) (t u : FuncType) (b c : Body) → TypedBelow m f → TypedBelow m g → slice_get m.funcs f ≡ Some i → slice_get m.funcs g ≡ Some j → slice_get m.types i ≡ Some t → slice_get m.types j ≡ Some u → slice_get m.bodies f ≡ Some b →
    slice_get m.bodies g ≡ Some c → IsFaultAt m (t.params ++ b.locals) (results_of t) b.code p → IsFaultAt m (u.params ++ c.locals) (results_of u) c.code q → (f ≡ g) × (p ≡ q)
inside_unique m f g i j p q t u b c sf sg hf hg ht hu hb hc af ag =
    ⊎_elim (λ lt. absurd (untyped_func m p i t b ht af (sg f i b lt hf hb))) (λ le. ⊎_elim (λ lt. absurd (untyped_func m q j u c hu ag (sf g j c lt hg hc))) (λ ge. let e : f ≡ g = omega arith in (e, places e)) (cases_lt g f)) (cases_lt f g)
  where
    places : f ≡ g → p ≡ q
    places e =
        let ei : i ≡ j = same_Some _ _ (sym hf ∙ ap (slice_get m.funcs) e ∙ hg) in
        let et : t ≡ u = same_Some _ _ (sym ht ∙ ap (slice_get m.types) ei ∙ hu) in
        let eb : b ≡ c = same_Some _ _ (sym hb ∙ ap (slice_get m.bodies) e ∙ hc) in
        fault_place_unique m (t.params ++ b.locals) (results_of t) b.code p q af
        (subst (λ (x : FuncType). IsFaultAt m (x.params ++ b.locals) (results_of x) b.code q) (sym et) (subst (λ (y : Body). IsFaultAt m (u.params ++ y.locals) (results_of u) y.code q) (sym eb) ag))

pub first_fault_unique : FirstFaultIsUnique
first_fault_unique m f p g q (outside a na sa) (outside b nb sb) = (refl, outside_unique m a b na nb sa sb)
first_fault_unique m f p g q (outside a na sa) (inside h p' i t b all below hf ht hb x) = absurd (na (all a))
first_fault_unique m f p g q (inside h p' i t b all below hf ht hb x) (outside a na sa) = absurd (na (all a))
first_fault_unique m f p g q (inside h p' i t b all below hf ht hb x) (inside h' q' j u c all' below' hg hu hc y) =
    let (e, r) = inside_unique m h h' i j p' q' t u b c below below' hf hg ht hu hb hc x y in (ap counted e, ap counted r)

pub first_fault_is_fault : FirstFaultIsFault
first_fault_is_fault m f p (outside a na sa) valid = na (valid.outside a)
first_fault_is_fault m f p (inside h p' i t b all below hf ht hb x) valid = untyped_func m p' i t b ht x (valid.bodies h i b hf hb)
