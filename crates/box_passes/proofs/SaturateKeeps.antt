-- The saturated program keeps data by substitution.
use Rattle.std.proofs.Common.{◌≡◌, ℕ, zero, suc, ◌+◌, ◌-◌, ◌<◌, ◌≤◌, if◌then◌else◌, List, [], ◌∷◌, ◌++◌, length, drop, map, Some, refl, sym, ap, ◌∙◌, subst, ⊎_elim, arith, append-nil, length-append}
use Rattle.std.proofs.lemmas.Bool.{cases_lt, le-leb, lt-leb}
use Rattle.std.specs.Prelude.{slice_get}
use Rattle.trees.specs.Tree.{Rel, Done, Next}
use Rattle.trees.specs.Closed.{Closed, ClosedEach}
use Rattle.trees.proofs.Put.{each_append, each_length}
use Rattle.pc_terms.specs.declared.leaf.Name.{Name}
use Rattle.pc_terms.specs.declared.leaf.FamilyId.{FamilyId}
use Rattle.box_terms.specs.BoxSyntax.{BoxTerm, BoxTerms, Box, BLambda, BLetIn, BApp, BConst, BConstruct, BCase, BFix}
use Rattle.lambda_box.specs.BoxProgram.{BoxFamily, BoxProgram, Has, KeepsBoxConstant, KeepsBoxFamily, box_apply}
use Rattle.lambda_box.specs.BoxForm.{HasBoxForm, HasBoxFormTerms, IsBoxProgram}
use Rattle.lambda_box.specs.BoxEvaluation.{IsBoxConstructor, is_box_constructor}
use Rattle.lambda_box.specs.BoxData.{Data}
use Rattle.lambda_box.specs.DataTerms.{evaluable, AreEvaluable, no_evaluable, one_evaluable, DataTerm, data_term, DataFields, no_data_field, data_field, DataTerms, no_data, more_data}
use Rattle.lambda_box.specs.OrdinaryForm.{family_of}
use Rattle.box_passes.specs.Saturate.{innermost, lambdas, constructor_function, saturate_counted, saturate_arguments, saturate_family, saturate_applied, saturate_terms, saturate_term, saturate_constant, without_parameters, saturate_program}
use Rattle.box_passes.specs.SaturateLaws.{SaturateKeeps, SaturatedForm}
use Rattle.lambda_box.proofs.Naming.{ordered_body, bodies_closed}
use Rattle.lambda_box.proofs.Spines.{closed_apply, apply_append}
use Rattle.box_passes.proofs.Filling.{drop_first, slice_found}
use Rattle.lambda_box.proofs.Families.{unique_family, family_found}
use Rattle.box_passes.proofs.SaturatedForm.{saturated_form, saturated_whole}
use Rattle.box_passes.proofs.Results.{result_of}
use Rattle.box_passes.proofs.SaturateRelation.{Sat, sat_rel, sat_box, sat_lambda, sat_let, sat_constant, sat_case, sat_fix, sat_full, sat_waits, SatTerms, sat_done, sat_next, SatArgs, args_none, args_dropped, args_kept, waits_none, SatList, sat_none, sat_one, sat_apply}
use Rattle.box_passes.proofs.Saturates.{SatFamily, keeps, sat_reads}
use Rattle.trees.proofs.Lists.{has_map}

closed_lambdas : (m k : ℕ) (b : BoxTerm) → Closed (m + k) b → Closed k (lambdas m b)
closed_lambdas zero k b h = let z : 0 + k ≡ k = omega arith in subst (λ n. Closed n b) z h
closed_lambdas (suc m) k b h = let z : suc m + k ≡ m + (1 + k) = omega arith in (closed_lambdas m (1 + k) b (subst (λ n. Closed n b) z h), tt)

closed_innermost : (k r : ℕ) (f : BoxTerm) → r ≤ k → Closed k f → Closed k (box_apply f (innermost r))
closed_innermost k zero f l h = h
closed_innermost k (suc r) f l h = let z : k ≡ 0 + k = omega arith in closed_innermost k r (BApp f (Rel r)) (omega arith) (subst (λ n. Closed n f) z h, (omega arith, tt))

module _ (P Q : BoxProgram) (f : FamilyId) (c n : ℕ) (F : BoxFamily) (keeps' : KeepsBoxFamily P f F) (at : slice_get F.args c ≡ Some n) where
  all_args : {xs ys : List BoxTerm} (j : ℕ) {t b : BoxTerm} → j ≤ F.params + n → SatArgs P Q f c F.params j t b → SatList P Q xs ys → F.params + n ≤ j + length ys → Sat P Q (box_apply t xs) (box_apply b (drop (F.params - j) ys))
  all_args j {t} {b} le h sat_none m = let z : F.params - j ≡ 0 = omega arith in subst (λ d. Sat P Q t (box_apply b (drop d []))) (sym z) (sat_full keeps' at (omega arith) h)
  all_args j {t} {b} le h (sat_one {x = x} {x' = y} {xs = xs} {xs' = ys} g gs) m =
      ⊎_elim (λ lt. dropped lt (λ l a m. all_args (suc j) l a gs m)) (λ le2. ⊎_elim (λ lt. kept le2 lt (λ l a m. all_args (suc j) l a gs m)) (λ le3. over le2 le3) (cases_lt j (F.params + n))) (cases_lt j F.params)
    where
      dropped : j < F.params → (suc j ≤ F.params + n → SatArgs P Q f c F.params (suc j) (BApp t x) b → F.params + n ≤ suc j + length ys → Sat P Q (box_apply (BApp t x) xs) (box_apply b (drop (F.params - suc j) ys))) →
          Sat P Q (box_apply (BApp t x) xs) (box_apply b (drop (F.params - j) (y ∷ ys)))
      dropped lt rec =
          let s : F.params - j ≡ suc (F.params - suc j) = omega arith in
          subst (λ d. Sat P Q (box_apply (BApp t x) xs) (box_apply b (drop d (y ∷ ys)))) (sym s) (rec (omega arith) (args_dropped lt h) (omega arith))

      kept : F.params ≤ j → j < F.params + n → (suc j ≤ F.params + n → SatArgs P Q f c F.params (suc j) (BApp t x) (BApp b y) → F.params + n ≤ suc j + length ys →
          Sat P Q (box_apply (BApp t x) xs) (box_apply (BApp b y) (drop (F.params - suc j) ys))) → Sat P Q (box_apply (BApp t x) xs) (box_apply b (drop (F.params - j) (y ∷ ys)))
      kept le lt rec =
          let z : F.params - j ≡ 0 = omega arith in
          let z' : F.params - suc j ≡ 0 = omega arith in
          let r = rec (omega arith) (args_kept le h g) (omega arith) in
          subst (λ d. Sat P Q (box_apply (BApp t x) xs) (box_apply b (drop d (y ∷ ys)))) (sym z) (subst (λ d. Sat P Q (box_apply (BApp t x) xs) (box_apply (BApp b y) (drop d ys))) z' r)

      over : F.params ≤ j → F.params + n ≤ j → Sat P Q (box_apply (BApp t x) xs) (box_apply b (drop (F.params - j) (y ∷ ys)))
      over le1 le2 =
          let z : F.params - j ≡ 0 = omega arith in
          subst (λ d. Sat P Q (box_apply (BApp t x) xs) (box_apply b (drop d (y ∷ ys)))) (sym z) (sat_apply P Q (sat_one g gs) (sat_full keeps' at (omega arith) h))

  function_sat : (m : ℕ) → 0 + suc m ≡ F.params + n → Sat P Q (BConstruct f c) (constructor_function F.params n f c)
  function_sat m z =
      let a : F.params + n ≡ suc m = omega arith in
      let left : n ≡ n - 0 = omega arith in
      let e = ap (λ k. lambdas k (box_apply (BConstruct f c) (innermost n))) a ∙ ap (λ k. BLambda (lambdas m (box_apply (BConstruct f c) (innermost k)))) left in
      let cl = closed_lambdas (F.params + n) 0 (box_apply (BConstruct f c) (innermost n)) (closed_innermost (F.params + n + 0) n (BConstruct f c) (omega arith) tt) in
      sat_waits m keeps' at z tt cl waits_none e

  counted_sat : {xs ys : List BoxTerm} → SatList P Q xs ys → Sat P Q (box_apply (BConstruct f c) xs) (saturate_counted F.params n f c ys)
  counted_sat {xs} {ys} gs =
      ⊎_elim
      (λ lt. subst (λ q. Sat P Q (box_apply (BConstruct f c) xs) (if q then box_apply (BConstruct f c) (drop F.params ys) else box_apply (constructor_function F.params n f c) ys)) (sym (lt-leb (F.params + n) (length ys) lt))
      (sat_apply P Q gs (function_sat (F.params + n - 1) (omega arith))))
      (λ le. subst (λ q. Sat P Q (box_apply (BConstruct f c) xs) (if q then box_apply (BConstruct f c) (drop F.params ys) else box_apply (constructor_function F.params n f c) ys)) (sym (le-leb (F.params + n) (length ys) le))
      (let z : F.params - 0 ≡ F.params = omega arith in subst (λ d. Sat P Q (box_apply (BConstruct f c) xs) (box_apply (BConstruct f c) (drop d ys))) z (all_args 0 (omega arith) args_none gs (omega arith))))
      (cases_lt (length ys) (F.params + n))

module _ (P Q : BoxProgram) (unique : (f : FamilyId) (F G : BoxFamily) → KeepsBoxFamily P f F → KeepsBoxFamily P f G → F ≡ G) where
  construct_sat : {xs ys : List BoxTerm} (f : FamilyId) (c : ℕ) (F : BoxFamily) → Has P.families F → F.id ≡ f → c < length F.args → SatList P Q xs ys → Sat P Q (box_apply (BConstruct f c) xs) (saturate_family (family_of P.families f) f c ys)
  construct_sat {xs} {ys} f c F h id lt gs =
      let r = family_found P.families f F h id in
      let same = unique f F r.family (h, id) (r.has, r.id) in
      let at = slice_found r.family.args c (subst (λ G. c < length G.args) same lt) in
      subst (λ o. Sat P Q (box_apply (BConstruct f c) xs) (saturate_family o f c ys)) (sym r.finds)
      (subst (λ o. Sat P Q (box_apply (BConstruct f c) xs) (saturate_arguments r.family.params o f c ys)) (sym at.1) (counted_sat P Q f c at.0 r.family (r.has, r.id) at.1 gs))

  mutual
    pub sat_applied : (t : BoxTerm) {xs ys : List BoxTerm} → HasBoxForm P.families t → SatList P Q xs ys → Sat P Q (box_apply t xs) (saturate_applied P.families t ys)
    sat_applied (Rel i) h gs = sat_apply P Q gs sat_rel
    sat_applied Box h gs = sat_apply P Q gs sat_box
    sat_applied (BLambda b) h gs = sat_apply P Q gs (sat_lambda (sat_applied b h.1.0 sat_none))
    sat_applied (BLetIn b t) h gs = sat_apply P Q gs (sat_let (sat_applied b h.1.0 sat_none) (sat_applied t h.1.1.0 sat_none))
    sat_applied (BApp f a) h gs = sat_applied f h.1.0 (sat_one (sat_applied a h.1.1.0 sat_none) gs)
    sat_applied (BConst x) h gs = sat_apply P Q gs sat_constant
    sat_applied (BConstruct f i) h gs = let q = h.0 in construct_sat f i q.0 q.1 q.2 q.3 gs
    sat_applied (BCase f s bs) h gs = sat_apply P Q gs (sat_case (sat_applied s h.1.0 sat_none) (sat_terms bs h.1.1.0))
    sat_applied (BFix i rargs bodies) h gs = sat_apply P Q gs (sat_fix (sat_terms bodies h.1.0))

    sat_terms : (ts : BoxTerms) → HasBoxFormTerms P.families ts → SatTerms P Q ts (saturate_terms P.families ts)
    sat_terms Done h = sat_done
    sat_terms (Next n t ts) h = sat_next (sat_applied t h.0 sat_none) (sat_terms ts h.1)

-- data terms
saturate_on_apply : (Fs : List BoxFamily) (f : BoxTerm) (xs ys : List BoxTerm) → saturate_applied Fs (box_apply f xs) ys ≡ saturate_applied Fs f (map (saturate_term Fs) xs ++ ys)
saturate_on_apply Fs f [] ys = refl
saturate_on_apply Fs f (x ∷ xs) ys = saturate_on_apply Fs (BApp f x) xs ys

module _ (P : BoxProgram) (ok : IsBoxProgram P) where
  abbrev Q : BoxProgram
  Q = saturate_program P

  -- a constructor with all its parameters and arguments loses its parameters
  saturated_constructor : {f : FamilyId} (c : ℕ) {n : ℕ} {F : BoxFamily} (qs xs : List BoxTerm) → KeepsBoxFamily P f F → slice_get F.args c ≡ Some n → length qs ≡ F.params → length xs ≡ n →
      saturate_term P.families (box_apply (BConstruct f c) (qs ++ xs)) ≡ box_apply (BConstruct f c) (map (saturate_term P.families) xs)
  saturated_constructor {f} c {n} {F} qs xs kept at lq lx =
      let S = saturate_term P.families in
      let r = family_found P.families f F kept.0 kept.1 in
      let same = unique_family P ok f r.family F (r.has, r.id) kept in
      let ys = map S (qs ++ xs) in
      let size : length ys ≡ F.params + n = omega (arith, each_length S (qs ++ xs), length-append qs xs, lq, lx) in
      let whole : F.params + n ≤ length ys = omega (arith, size) in
      saturate_on_apply P.families (BConstruct f c) (qs ++ xs) []
      ∙ ap (saturate_family (family_of P.families f) f c) (append-nil ys)
      ∙ ap (λ o. saturate_family o f c ys) (r.finds ∙ ap Some same)
      ∙ ap (λ o. saturate_arguments F.params o f c ys) at
      ∙ ap (λ q. if q then box_apply (BConstruct f c) (drop F.params ys) else box_apply (constructor_function F.params n f c) ys) (le-leb (F.params + n) (length ys) whole)
      ∙ ap (λ zs. box_apply (BConstruct f c) (drop F.params zs)) (each_append S qs xs)
      ∙ ap (box_apply (BConstruct f c)) (drop_first F.params (map S qs) (map S xs) (each_length S qs ∙ lq))

  -- what a data term is without its parameters
  record Bared (u : BoxTerm) (d : Data) : Type 0 where
    sat : Sat P Q u (saturate_term P.families u)
    closed : Closed 0 u
    closed' : Closed 0 (saturate_term P.families u)
    is : DataTerm Q (saturate_term P.families u) d

  record BaredFields (us : List BoxTerm) (d : Data) : Type 0 where
    sat : SatList P Q us (map (saturate_term P.families) us)
    closed : ClosedEach 0 us
    closed' : ClosedEach 0 (map (saturate_term P.families) us)
    is : DataFields Q (map (saturate_term P.families) us) d

  -- parameters may be any terms
  params_sat : {f : FamilyId} {c p : ℕ} {t b : BoxTerm} (j : ℕ) (qs : List BoxTerm) → j + length qs ≤ p → SatArgs P Q f c p j t b → SatArgs P Q f c p (j + length qs) (box_apply t qs) b
  params_sat {f} {c} {p} {t} {b} j [] l h = let z : j ≡ j + 0 = omega arith in subst (λ n. SatArgs P Q f c p n t b) z h
  params_sat {f} {c} {p} {t} {b} j (q ∷ qs) l h = let z : suc j + length qs ≡ j + suc (length qs) = omega arith in subst (λ n. SatArgs P Q f c p n (box_apply (BApp t q) qs) b) z (params_sat (suc j) qs (omega arith) (args_dropped (omega arith) h))

  fields_sat : {f : FamilyId} {c p : ℕ} {t b : BoxTerm} {xs ys : List BoxTerm} (j : ℕ) → p ≤ j → SatArgs P Q f c p j t b → SatList P Q xs ys → SatArgs P Q f c p (j + length xs) (box_apply t xs) (box_apply b ys)
  fields_sat {f} {c} {p} {t} {b} j l h sat_none = let z : j ≡ j + 0 = omega arith in subst (λ n. SatArgs P Q f c p n t b) z h
  fields_sat {f} {c} {p} {t} {b} j l h (sat_one {x = x} {x' = y} {xs = xs} {xs' = ys} g gs) =
      let z : suc j + length xs ≡ j + suc (length xs) = omega arith in
      subst (λ n. SatArgs P Q f c p n (box_apply (BApp t x) xs) (box_apply (BApp b y) ys)) z (fields_sat (suc j) (omega arith) (args_kept l h g) gs)

  closed_evaluable : {qs : List BoxTerm} → AreEvaluable P qs → ClosedEach 0 qs
  closed_evaluable no_evaluable = tt
  closed_evaluable (one_evaluable (evaluable c d) es) = (c, closed_evaluable es)

  closed_both : (xs ys : List BoxTerm) → ClosedEach 0 xs → ClosedEach 0 ys → ClosedEach 0 (xs ++ ys)
  closed_both [] ys h g = g
  closed_both (x ∷ xs) ys h g = (h.0, closed_both xs ys h.1 g)

  bared_term : {f : FamilyId} {c : ℕ} {w : BoxTerm} {qs xs : List BoxTerm} {ds : Data} → IsBoxConstructor P f c w qs xs → AreEvaluable P qs → BaredFields xs ds → Bared w ((c, length xs) ∷ ds)
  bared_term {f} {c} {w} {qs} {xs} {ds} (is_box_constructor {F = F} {n = n} kept p at lq lx e) es fs =
      let S = saturate_term P.families in
      let out = ap S e ∙ saturated_constructor c qs xs kept at lq lx in
      let count : 0 + length qs + length xs ≡ F.params + n = omega (arith, lq, lx) in
      let args = fields_sat (0 + length qs) (omega (arith, lq)) (params_sat 0 qs (omega (arith, lq)) args_none) fs.sat in
      let whole = e ∙ apply_append (BConstruct f c) qs xs in
      let sat = subst (λ t. Sat P Q t (box_apply (BConstruct f c) (map S xs))) (sym whole) (sat_full kept at count args) in
      let size = each_length S xs in
      let term = subst (λ k. DataTerm Q (S w) ((c, k) ∷ ds)) size (data_term (is_box_constructor (has_map without_parameters kept.0, kept.1) p at refl (size ∙ lx) out) no_evaluable fs.is) in
      record {
        sat = subst (λ t. Sat P Q w t) (sym out) sat;
        closed = subst (λ t. Closed 0 t) (sym e) (closed_apply (qs ++ xs) (BConstruct f c) tt (closed_both qs xs (closed_evaluable es) fs.closed));
        closed' = subst (λ t. Closed 0 t) (sym out) (closed_apply (map S xs) (BConstruct f c) tt fs.closed');
        is = term;
      }

  mutual
    bared : {u : BoxTerm} {d : Data} → DataTerm P u d → Bared u d
    bared (data_term con es fs) = bared_term con es (bared_fields fs)

    bared_fields : {us : List BoxTerm} {d : Data} → DataFields P us d → BaredFields us d
    bared_fields no_data_field = record { sat = sat_none; closed = tt; closed' = tt; is = no_data_field }
    bared_fields (data_field h hs) = let a = bared h in let r = bared_fields hs in record { sat = sat_one a.sat r.sat; closed = (a.closed, r.closed); closed' = (a.closed', r.closed'); is = data_field a.is r.is }

  record BaredTerms (us : List BoxTerm) (args : List Data) : Type 0 where
    sat : SatList P Q us (map (saturate_term P.families) us)
    closed : ClosedEach 0 us
    closed' : ClosedEach 0 (map (saturate_term P.families) us)
    is : DataTerms Q (map (saturate_term P.families) us) args

  bared_terms : {us : List BoxTerm} {args : List Data} → DataTerms P us args → BaredTerms us args
  bared_terms no_data = record { sat = sat_none; closed = tt; closed' = tt; is = no_data }
  bared_terms (more_data h hs) = let a = bared h in let r = bared_terms hs in record { sat = sat_one a.sat r.sat; closed = (a.closed, r.closed); closed' = (a.closed', r.closed'); is = more_data a.is r.is }

  sat_constants : (k : Name) (b : BoxTerm) → KeepsBoxConstant P k b → (b' : BoxTerm) × KeepsBoxConstant Q k b' × Sat P Q b b'
  sat_constants k b at = (saturate_term P.families b, has_map (saturate_constant P.families) at, sat_applied P Q (unique_family P ok) b (ordered_body P.families P.constants ok.constants (record { name = k; body = b }) at).form sat_none)

  sat_families : (f : FamilyId) (F : BoxFamily) → KeepsBoxFamily P f F → SatFamily Q f F
  sat_families f F h = record { family = without_parameters F; keeps = (has_map without_parameters h.0, h.1); args = refl; propositional = refl; params = refl }

pub saturate_keeps : SaturateKeeps
saturate_keeps P ok us args terms w d n m ev r =
    let a = bared_terms P ok terms in
    let Q = saturate_program P in
    let main = sat_applied P Q (unique_family P ok) P.main ok.main.form sat_none in
    let cl = closed_apply us P.main ok.main.closed a.closed in
    let cl' = closed_apply (map (saturate_term P.families) us) Q.main (saturated_form P ok).main.closed a.closed' in
    let k = keeps P Q (bodies_closed P ok) (bodies_closed Q (saturated_form P ok)) (sat_constants P ok) (sat_families P ok) (unique_family P ok) ev (sat_apply P Q a.sat main) cl cl' in
    (a.is, record { w = k.w'; nodes = k.n; matches = k.m; evaluates = k.ev; reads = sat_reads P Q (bodies_closed P ok) (bodies_closed Q (saturated_form P ok)) (sat_constants P ok) (sat_families P ok) (unique_family P ok) (result_of k.ev) k.is r })

pub saturated_has_form : SaturatedForm
saturated_has_form P ok = (saturated_form P ok, saturated_whole P ok)
