-- The saturated program has the form of programs, and is saturated.
use Rattle.std.proofs.Common.{◌≡◌, ℕ, zero, suc, ◌+◌, ◌<◌, ◌≤◌, if◌then◌else◌, List, [], ◌∷◌, length, drop, map, Some, refl, sym, ap, ◌∙◌, subst, ⊎_elim, arith, length-drop}
use Rattle.std.proofs.lemmas.Bool.{cases_lt, le-leb, lt-leb}
use Rattle.std.specs.Prelude.{slice_get}
use Rattle.trees.specs.Tree.{Rel, Done, Next}
use Rattle.trees.specs.Closed.{Closed, ClosedTerms}
use Rattle.trees.specs.Shape.{binders_of}
use Rattle.trees.proofs.Bounds.{closed_at}
use Rattle.pc_terms.specs.declared.leaf.Name.{Name}
use Rattle.pc_terms.specs.declared.leaf.FamilyId.{FamilyId}
use Rattle.box_terms.specs.BoxSyntax.{BoxTerm, BoxTerms, Box, BLambda, BLetIn, BApp, BConst, BConstruct, BCase, BFix}
use Rattle.lambda_box.specs.BoxProgram.{BoxConstant, BoxFamily, BoxProgram, Has, NamesOnly, NamesKept, box_apply}
use Rattle.lambda_box.specs.BoxForm.{IsFixBody, boxed, last, more, AreFixBodies, HasBoxForm, HasBoxFormTerms, IsBoxBody, AreOrdered, HasFewCounts, IsBoxProgram}
use Rattle.trees.specs.Closed.{EveryTerm}
use Rattle.lambda_box.specs.OrdinaryForm.{family_of}
use Rattle.box_passes.specs.Saturate.{innermost, lambdas, constructor_function, saturate_counted, saturate_arguments, saturate_family, saturate_applied, saturate_terms, saturate_term, saturate_constant, without_parameters, saturate_program}
use Rattle.box_passes.proofs.Filling.{slice_found}
use Rattle.lambda_box.specs.SaturatedForm.{IsSaturatedAt, AreSaturated, IsSaturated}
use Rattle.lambda_box.proofs.Naming.{ordered_body}
use Rattle.lambda_box.proofs.Families.{unique_family, family_found, distinct_mapped}
use Rattle.trees.proofs.Lists.{has_map, of_has_map}

module _ (Fs : List BoxFamily) (cs : List BoxConstant) (unique : (F G : BoxFamily) → Has Fs F → Has Fs G → F.id ≡ G.id → F ≡ G) where
  abbrev Gs : List BoxFamily
  Gs = map without_parameters Fs

  abbrev ds : List BoxConstant
  ds = map (saturate_constant Fs) cs

  -- closed below k, of the form, naming constants of the program alone, and saturated as the head of n arguments
  pub record Good (k n : ℕ) (t : BoxTerm) : Type 0 where
    pub closed : Closed k t
    pub form : HasBoxForm Gs t
    pub named : NamesOnly ds t
    pub full : IsSaturatedAt Gs n t

  abbrev pub AllGood : ℕ → List BoxTerm → Type 0
  AllGood k [] = Unit {0}
  AllGood k (x ∷ xs) = Good k 0 x × AllGood k xs

  good_at : {k j n : ℕ} {t : BoxTerm} → k ≡ j → Good k n t → Good j n t
  good_at {n = n} {t = t} e h = subst (λ m. Good m n t) e h

  good_apply : {k : ℕ} {f : BoxTerm} (xs : List BoxTerm) → Good k (length xs) f → AllGood k xs → Good k 0 (box_apply f xs)
  good_apply [] h g = h
  good_apply {k} {f} (x ∷ xs) h g =
      let x' = good_at {j = 0 + k} (omega arith) g.0 in
      let f' = good_at {j = 0 + k} (omega arith) h in
      good_apply {f = BApp f x} xs (record { closed = (f'.closed, (x'.closed, tt)); form = (tt, (h.form, (x'.form, tt))); named = (tt, (h.named, (x'.named, tt))); full = (h.full, x'.full) }) g.1

  good_drop : (k p : ℕ) (xs : List BoxTerm) → AllGood k xs → AllGood k (drop p xs)
  good_drop k zero xs g = g
  good_drop k (suc p) [] g = tt
  good_drop k (suc p) (x ∷ xs) g = good_drop k p xs g.1

  good_lambda : {k n : ℕ} {b : BoxTerm} → Good (1 + k) 0 b → Good k n (BLambda b)
  good_lambda h = record { closed = (h.closed, tt); form = (tt, (h.form, tt)); named = (tt, (h.named, tt)); full = h.full }

  good_lambdas : (m : ℕ) {k n : ℕ} {b : BoxTerm} → Good (suc m + k) 0 b → Good k n (lambdas (suc m) b)
  good_lambdas zero h = good_lambda h
  good_lambdas (suc m) h = good_lambda (good_lambdas m (good_at (omega arith) h))

  good_innermost : (k n : ℕ) → n ≤ k → AllGood k (innermost n)
  good_innermost k zero l = tt
  good_innermost k (suc n) l = (record { closed = omega arith; form = tt; named = tt; full = tt }, good_innermost k n (omega arith))

  innermost_length : (n : ℕ) → length (innermost n) ≡ n
  innermost_length zero = refl
  innermost_length (suc n) = ap suc (innermost_length n)

  good_construct : {k n m : ℕ} {f : FamilyId} {c : ℕ} {F : BoxFamily} → Has Fs F → F.id ≡ f → slice_get F.args c ≡ Some n → c < length F.args → n ≤ m → Good k m (BConstruct f c)
  good_construct {n = n} {F = F} h id at lt le =
      let here' = has_map without_parameters h in
      record { closed = tt; form = ((without_parameters F, here', id, lt), tt); named = (tt, tt); full = record { family = without_parameters F; has = here'; id = id; args = n; counts = at; enough = le } }

  good_counted : {k n : ℕ} {f : FamilyId} {c : ℕ} {F : BoxFamily} (xs : List BoxTerm) → Has Fs F → F.id ≡ f → slice_get F.args c ≡ Some n → c < length F.args → AllGood k xs → Good k 0 (saturate_counted F.params n f c xs)
  good_counted {k} {n} {f} {c} {F} xs h id at lt gs =
      ⊎_elim
      (λ less. subst (λ q. Good k 0 (if q then box_apply (BConstruct f c) (drop F.params xs) else box_apply (constructor_function F.params n f c) xs)) (sym (lt-leb (F.params + n) (length xs) less)) (good_apply xs (functions (F.params + n) (omega arith)) gs))
      (λ le. subst (λ q. Good k 0 (if q then box_apply (BConstruct f c) (drop F.params xs) else box_apply (constructor_function F.params n f c) xs)) (sym (le-leb (F.params + n) (length xs) le))
      (good_apply (drop F.params xs) (good_construct h id at lt (omega (arith, length-drop F.params xs, le))) (good_drop k F.params xs gs)))
      (cases_lt (length xs) (F.params + n))
    where
      functions : (m : ℕ) → (length xs < m) × (n ≤ m) → Good k (length xs) (lambdas m (box_apply (BConstruct f c) (innermost n)))
      functions zero l = absurd (omega arith)
      functions (suc m) l = good_lambdas m (good_apply (innermost n) (good_construct h id at lt (omega (arith, innermost_length n))) (good_innermost (suc m + k) n (omega arith)))

  good_family : {k : ℕ} {f : FamilyId} {c : ℕ} (F : BoxFamily) (xs : List BoxTerm) → Has Fs F → F.id ≡ f → c < length F.args → AllGood k xs → Good k 0 (saturate_family (family_of Fs f) f c xs)
  good_family {k} {f} {c} F xs h id lt gs =
      let r = family_found Fs f F h id in
      let same = unique F r.family h r.has (id ∙ sym r.id) in
      let lt' = subst (λ G. c < length G.args) same lt in
      let at = slice_found r.family.args c lt' in
      subst (λ o. Good k 0 (saturate_family o f c xs)) (sym r.finds) (subst (λ o. Good k 0 (saturate_arguments r.family.params o f c xs)) (sym at.1) (good_counted xs r.has r.id at.1 lt' gs))

  record GoodTerms (k : ℕ) (ts : BoxTerms) : Type 0 where
    closed : ClosedTerms k ts
    form : HasBoxFormTerms Gs ts
    named : EveryTerm (NamesKept ds) ts
    full : AreSaturated Gs ts

  binders_kept : (ts : BoxTerms) → binders_of (saturate_terms Fs ts) ≡ binders_of ts
  binders_kept Done = refl
  binders_kept (Next n t ts) = ap (◌∷◌ n) (binders_kept ts)

  fix_body_kept : {r : ℕ} {t : BoxTerm} → IsFixBody r t → IsFixBody r (saturate_term Fs t)
  fix_body_kept boxed = boxed
  fix_body_kept last = last
  fix_body_kept (more h) = more (fix_body_kept h)

  fix_bodies_kept : (n : ℕ) (rs : List ℕ) (ts : BoxTerms) → AreFixBodies n rs ts → AreFixBodies n rs (saturate_terms Fs ts)
  fix_bodies_kept n [] Done h = tt
  fix_bodies_kept n [] (Next m t ts) h = elim h [ ]
  fix_bodies_kept n (r ∷ rs) Done h = elim h [ ]
  fix_bodies_kept n (r ∷ rs) (Next m t ts) h = (h.0, fix_body_kept h.1, fix_bodies_kept n rs ts h.2)

  constant_named : {k : Name} {b : BoxTerm} → Has cs (record { name = k; body = b }) → Has ds (record { name = k; body = saturate_term Fs b })
  constant_named h = has_map (saturate_constant Fs) h

  mutual
    pub good_applied : {k : ℕ} (t : BoxTerm) (xs : List BoxTerm) → Closed k t → HasBoxForm Fs t → NamesOnly cs t → AllGood k xs → Good k 0 (saturate_applied Fs t xs)
    good_applied (Rel i) xs c h m gs = good_apply xs (record { closed = c; form = tt; named = tt; full = tt }) gs
    good_applied Box xs c h m gs = good_apply xs (record { closed = tt; form = (tt, tt); named = (tt, tt); full = tt }) gs
    good_applied (BLambda b) xs c h m gs = good_apply xs (good_lambda (good_applied b [] c.0 h.1.0 m.1.0 tt)) gs
    good_applied (BLetIn b t) xs c h m gs =
        let b' = good_applied b [] c.0 h.1.0 m.1.0 tt in
        let t' = good_applied t [] c.1.0 h.1.1.0 m.1.1.0 tt in
        good_apply xs (record { closed = (b'.closed, (t'.closed, tt)); form = (tt, (b'.form, (t'.form, tt))); named = (tt, (b'.named, (t'.named, tt))); full = (b'.full, t'.full) }) gs
    good_applied {k} (BApp f a) xs c h m gs =
        good_applied f (saturate_term Fs a ∷ xs) (closed_at f (omega arith) c.0) h.1.0 m.1.0 (good_applied a [] (closed_at a (omega arith) c.1.0) h.1.1.0 m.1.1.0 tt, gs)
    good_applied (BConst x) xs c h m gs = good_apply xs (record { closed = tt; form = (tt, tt); named = ((saturate_term Fs m.0.0, constant_named m.0.1), tt); full = tt }) gs
    good_applied (BConstruct f i) xs c h m gs = let q = h.0 in good_family q.0 xs q.1 q.2 q.3 gs
    good_applied (BCase f s bs) xs c h m gs =
        let q = h.0 in
        let s' = good_applied s [] c.0 h.1.0 m.1.0 tt in
        let bs' = good_terms bs c.1.0 h.1.1.0 m.1.1.0 in
        good_apply xs
        (record {
          closed = (s'.closed, (bs'.closed, tt));
          form = ((without_parameters q.0, has_map without_parameters q.1, q.2, binders_kept bs ∙ q.3), (s'.form, (bs'.form, tt)));
          named = (tt, (s'.named, (bs'.named, tt)));
          full = (s'.full, bs'.full);
        })
        gs
    good_applied (BFix i rargs bodies) xs c h m gs =
        let bs' = good_terms bodies c.0 h.1.0 m.1.0 in
        good_apply xs (record { closed = (bs'.closed, tt); form = ((h.0.0, fix_bodies_kept (length rargs) rargs bodies h.0.1), (bs'.form, tt)); named = (tt, (bs'.named, tt)); full = bs'.full }) gs

    good_terms : {k : ℕ} (ts : BoxTerms) → ClosedTerms k ts → HasBoxFormTerms Fs ts → EveryTerm (NamesKept cs) ts → GoodTerms k (saturate_terms Fs ts)
    good_terms Done c h m = record { closed = tt; form = tt; named = tt; full = tt }
    good_terms (Next n t ts) c h m =
        let t' = good_applied t [] c.0 h.0 m.0 tt in
        let ts' = good_terms ts c.1 h.1 m.1 in
        record { closed = (t'.closed, ts'.closed); form = (t'.form, ts'.form); named = (t'.named, ts'.named); full = (t'.full, ts'.full) }

  pub good_term : (t : BoxTerm) → IsBoxBody Fs cs t → Good 0 0 (saturate_term Fs t)
  good_term t h = good_applied t [] h.closed h.form h.named tt

-- lists

module _ (P : BoxProgram) (ok : IsBoxProgram P) where
  abbrev Q : BoxProgram
  Q = saturate_program P

  one_family_named : (F G : BoxFamily) → Has P.families F → Has P.families G → F.id ≡ G.id → F ≡ G
  one_family_named F G h g e = unique_family P ok G.id F G (h, e) (g, refl)

  body_of : {cs : List BoxConstant} {t : BoxTerm} → IsBoxBody P.families cs t → IsBoxBody Q.families (map (saturate_constant P.families) cs) (saturate_term P.families t)
  body_of {cs} {t} h = let g = good_term P.families cs one_family_named t h in record { closed = g.closed; form = g.form; named = g.named }

  ordered : (cs : List BoxConstant) → AreOrdered P.families cs → AreOrdered Q.families (map (saturate_constant P.families) cs)
  ordered [] h = tt
  ordered (d ∷ cs) h = (body_of h.0, ordered cs h.1)

  few : (G : BoxFamily) → Has Q.families G → HasFewCounts G
  few G h =
      let r = of_has_map without_parameters P.families h in
      let c = ok.counts r.0 r.1 in
      subst HasFewCounts r.2 (record { constructors = c.constructors; params = omega arith; args = c.args })

  pub saturated_form : IsBoxProgram Q
  saturated_form =
      record {
        constants = ordered P.constants ok.constants;
        distinct_constants = distinct_mapped (saturate_constant P.families) (λ d. d.name) (λ d. d.name) P.constants (λ d. refl) ok.distinct_constants;
        distinct_families = distinct_mapped without_parameters (λ F. F.id) (λ F. F.id) P.families (λ F. refl) ok.distinct_families;
        counts = few;
        main = body_of ok.main;
      }

  pub saturated_whole : IsSaturated Q
  saturated_whole =
      record {
        params = λ G h. let r = of_has_map without_parameters P.families h in sym (ap (λ F. F.params) r.2);
        constants = λ d h.
            let r = of_has_map (saturate_constant P.families) P.constants h in
            let g = good_term P.families P.constants one_family_named r.0.body (ordered_body P.families P.constants ok.constants r.0 r.1) in
            subst (λ d. IsSaturatedAt Q.families 0 d.body) r.2 g.full;
        main = (good_term P.families P.constants one_family_named P.main ok.main).full;
      }
