-- Saturated programs give the same data, with environments.
use Rattle.std.proofs.Common.{◌≡◌, ℕ, zero, suc, ◌+◌, ◌≤◌, List, [], ◌∷◌, ◌++◌, length, drop, Some, refl, sym, ap, ◌∙◌, subst, arith, length-append, append_assoc, append-nil}
use Rattle.std.specs.Prelude.{slice_get}
use Rattle.pc_terms.specs.declared.leaf.Name.{Name}
use Rattle.pc_terms.specs.declared.leaf.FamilyId.{FamilyId}
use Rattle.box_terms.specs.BoxSyntax.{BoxTerm, BApp, BConstruct}
use Rattle.lambda_box.specs.BoxProgram.{BoxFamily, BoxProgram, KeepsBoxConstant, KeepsBoxFamily, box_apply}
use Rattle.lambda_box.specs.BoxEvaluation.{IsBoxConstructor, is_box_constructor}
use Rattle.lambda_box.specs.BoxData.{Data, BoxReads, BoxReadsAll, box_reads, no_box_field, box_field}
use Rattle.box_passes.specs.Saturate.{innermost, saturate_program}
use Rattle.box_passes.specs.SaturateLaws.{SaturatedRuns}
use Rattle.lambda_box.specs.DataTerms.{evaluable, AreEvaluable, no_evaluable, one_evaluable, DataTerm, data_term, DataFields, no_data_field, data_field, DataTerms, no_data, more_data, ValuesHold, hold_none, hold_last}
use Rattle.lambda_box.specs.ClosureEvaluation.{ClosureValue, VConstruct, ClosureValues, NoValue, Then, ClosureEnv, Empty, bind_all, size, Holds, Finds, found, later, ValueReads, value_reads, ValuesRead, no_values, and_then}
use Rattle.lambda_box.proofs.Spines.{head_of, arguments, arguments_before, constructor_head, constructor_arguments, apply_append}
use Rattle.box_passes.proofs.Standing as standing
use Rattle.box_passes.proofs.Standing.{IsValue, is_box, is_lambda, is_fix, is_part, is_part_box, is_construct, is_waiting, Stands, Made, made_head, made_dropped, made_kept, Waits}
use Rattle.box_passes.proofs.Selves.{made_is, made_count, waits_is, waits_count, one_more, part_no_construct, fix_no_construct, no_lambda, no_box}
use Rattle.box_passes.proofs.Filling.{made_size, drop_first, drop_before}
use Rattle.box_passes.proofs.Follows.{FamilyAt, ConstantAt, follows, same_counts, constructor_number}
use Rattle.lambda_box.proofs.Families.{unique_family}
use Rattle.box_passes.proofs.Saturating.{StandList, no_terms, one_term, stands_apply, stands_applied, saturated_constant, saturated_family}

-- the last field of a list
record LastField (P : BoxProgram) (xs : List BoxTerm) (u : BoxTerm) (ds : Data) : Type 0 where
  ds' : Data
  d : Data
  split : ds ≡ ds' ++ d
  fields : BoxReadsAll P xs ds'
  last : BoxReads P u d

last_field : {P : BoxProgram} {u : BoxTerm} {ds : Data} (xs : List BoxTerm) → BoxReadsAll P (xs ++ u ∷ []) ds → LastField P xs u ds
last_field [] (box_field {d = d} r no_box_field) = record { ds' = []; d = d; split = append-nil d; fields = no_box_field; last = r }
last_field (x ∷ xs) (box_field {d = d} r rs) =
    let q = last_field xs rs in
    record { ds' = d ++ q.ds'; d = q.d; split = ap (λ e. d ++ e) q.split ∙ sym (append_assoc d q.ds' q.d); fields = box_field r q.fields; last = q.last }

con_head : {P : BoxProgram} {f : FamilyId} {c : ℕ} {w : BoxTerm} {qs xs : List BoxTerm} → IsBoxConstructor P f c w qs xs → head_of w ≡ BConstruct f c
con_head {qs = qs} {xs = xs} (is_box_constructor k p at lq lx e) = constructor_head (qs ++ xs) e

pub drop_everything : (p : ℕ) (xs : List BoxTerm) → length xs ≤ p → drop p xs ≡ []
drop_everything zero [] l = refl
drop_everything (suc p) [] l = refl
drop_everything zero (x ∷ xs) l = absurd (omega arith)
drop_everything (suc p) (x ∷ xs) l = drop_everything p xs (omega arith)

nothing_read : {P : BoxProgram} {ds : Data} (vs : ClosureValues) (ys : List BoxTerm) → size vs ≡ 0 → ys ≡ [] → BoxReadsAll P ys ds → ValuesRead vs ds
nothing_read NoValue [] z e no_box_field = no_values
nothing_read NoValue (y ∷ ys) z e r = absurd (cc)
nothing_read (Then v vs) ys z e r = absurd (omega arith)

read_last : {P : BoxProgram} {xs : List BoxTerm} {u : BoxTerm} {ds : Data} {v : ClosureValue} {vs : ClosureValues} (q : LastField P xs u ds) → ValuesRead vs q.ds' → ValueReads v q.d → ValuesRead (Then v vs) ds
read_last {v = v} {vs = vs} q rs r = subst (λ ds. ValuesRead (Then v vs) ds) (sym q.split) (and_then rs r)

module _ (P P' : BoxProgram) (constants : (k : Name) (b : BoxTerm) → KeepsBoxConstant P k b → ConstantAt P P' k b) (families : (f : FamilyId) (F : BoxFamily) → KeepsBoxFamily P f F → FamilyAt P' f F)
    (unique : (f : FamilyId) (F G : BoxFamily) → KeepsBoxFamily P f F → KeepsBoxFamily P f G → F ≡ G) where
  constructed : {f g : FamilyId} {c c' n : ℕ} {F : BoxFamily} {w : BoxTerm} {vs : ClosureValues} {qs xs : List BoxTerm} {ds : Data} → KeepsBoxFamily P f F → slice_get F.args c ≡ Some n → Made P f c F.params (F.params + n) w vs →
      IsBoxConstructor P g c' w qs xs → (drop F.params (arguments w []) ≡ xs → ValuesRead vs ds) → ValueReads (VConstruct f c vs) ((c', length xs) ∷ ds)
  constructed {f} {g} {c} {c'} {n} {F} {w} {vs} {qs} {xs} {ds} keeps at made (is_box_constructor {F = G} {n = k} keeps' p at' lq lx e) rec =
      let e1 = sym (made_is made) ∙ constructor_head (qs ++ xs) e in
      let same = same_counts P unique e1 keeps at keeps' at' in
      let args = constructor_arguments g c' (qs ++ xs) e in
      let read = rec (ap (drop F.params) args ∙ drop_first F.params qs xs (omega (arith, lq, same.0))) in
      let count : size vs ≡ length xs = omega (arith, made_size made, same.1, lx) in
      let number : c ≡ c' = ap constructor_number e1 in
      subst (λ k. ValueReads (VConstruct f c vs) ((k, length xs) ∷ ds)) number (subst (λ k. ValueReads (VConstruct f c vs) ((c, k) ∷ ds)) count (value_reads read))

  not_waiting : {f g : FamilyId} {c c' n m : ℕ} {F : BoxFamily} {w : BoxTerm} {e : ClosureEnv} {qs xs : List BoxTerm} → KeepsBoxFamily P f F → slice_get F.args c ≡ Some n → Waits P f c (F.params + n) (suc m) w e → IsBoxConstructor P g c' w qs xs → ⊥
  not_waiting {g = g} {c' = c'} {qs = qs} {xs = xs} keeps at h (is_box_constructor {F = G} {n = k} keeps' p at' lq lx e) =
      let e1 = sym (waits_is h) ∙ constructor_head (qs ++ xs) e in
      let same = same_counts P unique e1 keeps at keeps' at' in
      let args = ap length (constructor_arguments g c' (qs ++ xs) e) in
      omega (arith, waits_count h, args, length-append qs xs, lq, lx, same.0, same.1)

  mutual
    -- a value that is data holds it
    pub reads_value : {w : BoxTerm} {v : ClosureValue} {d : Data} → IsValue P w v → BoxReads P w d → ValueReads v d
    reads_value (is_construct F at made) (box_reads con rs) = constructed F at made con (λ eq. reads_made made _ eq rs)
    reads_value (is_waiting F at h) (box_reads con rs) = absurd (not_waiting F at h con)
    reads_value is_box (box_reads con rs) = absurd (no_box (con_head con))
    reads_value (is_lambda h) (box_reads con rs) = absurd (no_lambda (con_head con))
    reads_value (is_fix h l) (box_reads con rs) = absurd (fix_no_construct (con_head con))
    reads_value (is_part p) (box_reads con rs) = absurd (part_no_construct p (con_head con))
    reads_value (is_part_box p) (box_reads con rs) = absurd (part_no_construct p (con_head con))

    reads_made : {f : FamilyId} {c p j : ℕ} {t : BoxTerm} {vs : ClosureValues} {ds : Data} → Made P f c p j t vs → (ys : List BoxTerm) → drop p (arguments t []) ≡ ys → BoxReadsAll P ys ds → ValuesRead vs ds
    reads_made {p = p} made_head ys eq rs = nothing_read NoValue ys refl (sym eq ∙ drop_everything p [] (omega arith)) rs
    reads_made {p = p} {vs = vs} (made_dropped {t = t} {u = u} l c h) ys eq rs =
        nothing_read vs ys (omega (arith, made_size h)) (sym eq ∙ drop_everything p (arguments (BApp t u) []) (omega (arith, one_more t u, made_count h))) rs
    reads_made {p = p} {ds = ds} (made_kept {t = t} {u = u} {vs = vs} {v = v} le h g) ys eq rs =
        let same = sym eq ∙ ap (drop p) (arguments_before t (u ∷ [])) ∙ drop_before p (arguments t []) u (omega (arith, made_count h)) in
        let q = last_field (drop p (arguments t [])) (subst (λ zs. BoxReadsAll P zs ds) same rs) in
        read_last q (reads_made h _ refl q.fields) (reads_value g q.last)

-- data terms are values
record Valued (P : BoxProgram) (t : BoxTerm) (d : Data) : Type 0 where
  v : ClosureValue
  is : IsValue P t v
  reads : ValueReads v d

record AllMade (P : BoxProgram) (f : FamilyId) (c p j : ℕ) (t : BoxTerm) (ds : Data) : Type 0 where
  vs : ClosureValues
  made : Made P f c p j t vs
  reads : ValuesRead vs ds

made_params : {P : BoxProgram} {f : FamilyId} {c p : ℕ} {t : BoxTerm} (j : ℕ) (qs : List BoxTerm) → j + length qs ≤ p → AreEvaluable P qs → Made P f c p j t NoValue → Made P f c p (j + length qs) (box_apply t qs) NoValue
made_params {P} {f} {c} {p} {t} j [] l no_evaluable h = let z : j ≡ j + 0 = omega arith in subst (λ n. Made P f c p n t NoValue) z h
made_params {P} {f} {c} {p} {t} j (q ∷ qs) l (one_evaluable (evaluable cq d) es) h =
    let z : suc j + length qs ≡ j + suc (length qs) = omega arith in
    subst (λ n. Made P f c p n (box_apply (BApp t q) qs) NoValue) z (made_params (suc j) qs (omega arith) es (made_dropped (omega arith) cq h))

mutual
  valued : {P : BoxProgram} {w : BoxTerm} {d : Data} → DataTerm P w d → Valued P w d
  valued {P} (data_term {f = f} {c = c} {w = w} {qs = qs} {xs = xs} {ds = ds} con es fs) = finish con (λ p j le t h. made_fields p j le t [] h no_values fs)
    where
      finish : IsBoxConstructor P f c w qs xs → ((p j : ℕ) → p ≤ j → (t : BoxTerm) → Made P f c p j t NoValue → AllMade P f c p (j + length xs) (box_apply t xs) ([] ++ ds)) → Valued P w ((c, length xs) ∷ ds)
      finish (is_box_constructor {F = F} {n = n} keeps p at lq lx e) rec =
          let params : 0 + length qs ≤ F.params = omega (arith, lq) in
          let params' : F.params ≤ 0 + length qs = omega (arith, lq) in
          let count : 0 + length qs + length xs ≡ F.params + n = omega (arith, lq, lx) in
          let r = rec F.params (0 + length qs) params' (box_apply (BConstruct f c) qs) (made_params 0 qs params es made_head) in
          let whole = sym (e ∙ apply_append (BConstruct f c) qs xs) in
          let made = subst (λ k. Made P f c F.params k w r.vs) count (subst (λ t. Made P f c F.params (0 + length qs + length xs) t r.vs) whole r.made) in
          let sized : size r.vs ≡ length xs = omega (arith, made_size made, lx) in
          record { v = _; is = is_construct keeps at made; reads = subst (λ k. ValueReads (VConstruct f c r.vs) ((c, k) ∷ ds)) sized (value_reads r.reads) }

  made_fields : {P : BoxProgram} {f : FamilyId} {c : ℕ} {xs : List BoxTerm} {ds : Data} {vs : ClosureValues} (p j : ℕ) → p ≤ j → (t : BoxTerm) (before : Data) → Made P f c p j t vs → ValuesRead vs before → DataFields P xs ds →
      AllMade P f c p (j + length xs) (box_apply t xs) (before ++ ds)
  made_fields {P} {f} {c} {vs = vs} p j le t before h rs no_data_field =
      let z : j ≡ j + 0 = omega arith in
      record { vs = vs; made = subst (λ n. Made P f c p n t vs) z h; reads = subst (λ d. ValuesRead vs d) (sym (append-nil before)) rs }
  made_fields {P} {f} {c} p j le t before h rs (data_field {x = x} {xs = xs} {d = d} {ds = ds} one rest) =
      let v = valued one in
      let r = made_fields p (suc j) (omega arith) (BApp t x) (before ++ d) (made_kept le h v.is) (and_then rs v.reads) rest in
      let z : suc j + length xs ≡ j + suc (length xs) = omega arith in
      record { vs = r.vs; made = subst (λ n. Made P f c p n (box_apply (BApp t x) xs) r.vs) z r.made; reads = subst (λ d. ValuesRead r.vs d) (append_assoc before d ds) r.reads }

-- main's arguments
pub record Arguments (P : BoxProgram) (us : List BoxTerm) (before : ClosureValues) (args : List Data) : Type 0 where
  pub vs : ClosureValues
  pub holds : ValuesHold vs args
  pub lifts : (i : ℕ) (v : ClosureValue) → Finds (bind_all before Empty) i (Holds v) → Finds (bind_all vs Empty) (length us + i) (Holds v)
  pub stands : StandList P 0 (bind_all vs Empty) us (innermost (length us))

pub arguments_held : {P : BoxProgram} {us : List BoxTerm} {args : List Data} (before : ClosureValues) (prior : List Data) → ValuesHold before prior → DataTerms P us args → Arguments P us before (prior ++ args)
arguments_held before prior h no_data =
    record { vs = before; holds = subst (λ ds. ValuesHold before ds) (sym (append-nil prior)) h; lifts = λ i v f. let z : i ≡ 0 + i = omega arith in subst (λ n. Finds (bind_all before Empty) n (Holds v)) z f; stands = no_terms }
arguments_held before prior h (more_data {x = x} {xs = xs} {d = d} {ds = ds} one rest) =
    let v = valued one in
    let r = arguments_held (Then v.v before) (prior ++ d ∷ []) (hold_last h v.reads) rest in
    let z : length xs + 0 ≡ length xs = omega arith in
    record {
      vs = r.vs;
      holds = subst (λ e. ValuesHold r.vs e) (append_assoc prior (d ∷ []) ds) r.holds;
      lifts = λ i w f. let q : length xs + suc i ≡ suc (length xs) + i = omega arith in subst (λ n. Finds (bind_all r.vs Empty) n (Holds w)) q (r.lifts (suc i) w (later f));
      stands = one_term (standing.held (length xs) (omega arith) (subst (λ n. Finds (bind_all r.vs Empty) n (Holds v.v)) z (r.lifts 0 v.v found)) v.is) r.stands;
    }

pub saturated_runs : SaturatedRuns
saturated_runs P ok us args terms w d n m ev r =
    let a = arguments_held NoValue [] hold_none terms in
    let unique = unique_family P ok in
    let main = stands_applied P unique {e = bind_all a.vs Empty} P.main ok.main.closed ok.main.form no_terms in
    let g = follows P (saturate_program P) (saturated_constant P ok) (saturated_family P) unique ev (stands_apply a.stands main) in
    (a.vs, a.holds, record { v = g.v; counts = g.c; run = g.run; reads = reads_value P (saturate_program P) (saturated_constant P ok) (saturated_family P) unique g.is r; contractions = omega (arith, g.contractions); blocks = g.made })
