-- What directed erasure gives is an erasure.
use Rattle.std.proofs.Common.{◌≡◌, ℕ, suc, List, [], ◌∷◌, length, Option, Some, None, refl, sym, ◌∙◌, subst}
use Rattle.pc_terms.specs.Syntax.{Term, Terms, Next, Rel, SortT, Prod, Lambda, LetIn, App, Const, Ind, Construct, Case, Fix, shift, terms_of, list_of}
use Rattle.pc_terms.specs.Syntax as syntax
use Rattle.pc_terms.specs.Formed.{binders_of, EachTerm, AreAll}
use Rattle.box_terms.specs.BoxSyntax.{BoxTerm, BoxTerms, BLambda, BLetIn, BApp, BCase, BFix}
use Rattle.calculus_rules.specs.declared.declaration.Constructor.{Constructor}
use Rattle.calculus_rules.specs.declared.entry.Entry.TheVariants.{Assumed, Defined}
use Rattle.pc_rules.specs.declared.meter.Account.{Account}
use Rattle.calculus_rules.specs.Environment.{Env, FamilyDecl, KeepsFamily}
use Rattle.calculus_rules.specs.Context.{Context, extend}
use Rattle.calculus_rules.specs.Instances.{branch_entries, definitions}
use Rattle.calculus_rules.specs.declared.evidence.Evidence.{Evidence}
use Rattle.pc_rules.specs.DirectedRun as run
use Rattle.pc_rules.specs.DirectedRun.{Run, done, any_beyond, bind}
use Rattle.calculus_rules.specs.Lookups.{family_of}
use Rattle.pc_rules.specs.DirectedComparison.{Test, IsTest, lifted_types}
use Rattle.pc_rules.specs.DirectedTyping.{infer}
use Rattle.pc_rules.specs.DirectedErasable.{erasable_test}
use Rattle.pc_rules.specs.WellCounted.{IsCountedNode, arities, IsCounted, AreCounted, AreCountedConstructors, HasCountedDeclarations, IsCountedContext}
use Rattle.pc_rules.proofs.WeakNext.{family_found}
use Rattle.rule_laws.proofs.Runs.{bind_both, done_value, pass_then}
use Rattle.rule_laws.proofs.Counted.{list_counted, shifted_counted}
use Rattle.rule_laws.proofs.KeepCounts.{kept_counted}
use Rattle.rule_laws.proofs.CountedParts.{branch_entries_counted, context_extended}
use Rattle.calculus_rules.proofs.Listing.{first_same, rest_same}
use Rattle.rule_laws.proofs.Comparing.{names_long, list_long, no_cons}
use Rattle.rule_laws.proofs.MatchRule.{terms_are}
use Rattle.rule_laws.proofs.Inferring.{infer_sound}
use Rattle.rule_laws.proofs.Evidence.{evidence_sound}
use Rattle.erase_laws.specs.Erases.{Erases, box, rel, lambda, let_in, app, const, case, fix, ErasesBranches, ErasesBodies, body}
use Rattle.erase_rules.specs.DirectedErasure.{box_or, tested, in_family, kept, kept_branches, kept_bodies, erased}
use Rattle.erase_rules.proofs.Found.{type_none, sort_not_plain, prod_not_plain, ind_not_plain, constructor_none, match_none}

module _ (E : Env) (w : HasCountedDeclarations E) (q : Test) (test : IsTest E.levels E.constraints q) (n : ℕ) where
  -- no evidence is found for a term, and what is kept of it is an erasure of it
  abbrev KeptErases : Context → Term → Type 0
  KeptErases c t = (t' : BoxTerm) (u v x y : Account) → (erasable_test E (infer E q n) c t x).end ≡ run.Done None y →
      (kept E (infer E q n) c t u).end ≡ run.Done t' v → Erases E c t t'

  found_sound : (c : Context) (t : Term) → IsCountedContext E c → IsCounted E t → KeptErases c t → (o : Option Evidence) (t' : BoxTerm) (u v x y : Account) →
      (erasable_test E (infer E q n) c t x).end ≡ run.Done o y → (box_or o (kept E (infer E q n) c t) u).end ≡ run.Done t' v → Erases E c t t'
  found_sound c t kc wt h (Some k) t' u v x y e g =
      subst (λ t'. Erases E c t t') (done_value g) (box (evidence_sound E w (infer E q n) (infer_sound E w q test n) c t k x y kc wt e).0)
  found_sound c t kc wt h None t' u v x y e g = h t' u v x y e g

  tested_sound : (c : Context) (t : Term) → IsCountedContext E c → IsCounted E t → KeptErases c t → (t' : BoxTerm) (u v : Account) →
      (erased E (infer E q n) c t u).end ≡ run.Done t' v → Erases E c t t'
  unfolding tested
  tested_sound c t kc wt h t' u v g =
      let p = bind_both (erasable_test E (infer E q n) c t u) (λ o v. box_or o (kept E (infer E q n) c t) v) t' v g in
      found_sound c t kc wt h p.0 t' p.1 v u p.1 p.2 p.3

  definitions_counted : (c : Context) (m : ℕ) (types : Terms) → IsCountedContext E c → EachTerm (IsCountedNode E) types → IsCountedContext E (definitions c m types)
  definitions_counted c m syntax.Done kc h = kc
  definitions_counted c m (Next b T ts) kc h = definitions_counted (Assumed (shift m 0 T) ∷ c) (suc m) ts (shifted_counted E m 0 T h.0, kc) h.1

  mutual
    kept_sound : (t : Term) (c : Context) → IsCountedContext E c → IsCounted E t → KeptErases c t
    kept_sound (Rel i) c kc wt t' u v x y e g = subst (λ t'. Erases E c (Rel i) t') (done_value g) rel
    kept_sound (SortT s) c kc wt t' u v x y e g = absurd (sort_not_plain E q n c s (type_none E (infer E q n) c (SortT s) x y e))
    kept_sound (Prod A B) c kc wt t' u v x y e g = absurd (prod_not_plain E q n c A B (type_none E (infer E q n) c (Prod A B) x y e))
    kept_sound (Lambda A b) c kc wt t' u v x y e g =
        let d : Context = Assumed A ∷ c in
        let p = bind_both (erased E (infer E q n) d b u) (λ b' v. done (BLambda b') v) t' v g in
        let kd : IsCountedContext E d = (wt.1.0, kc) in
        subst (λ t'. Erases E c (Lambda A b) t') (done_value p.3)
        (lambda (tested_sound d b kd wt.1.1.0 (kept_sound b d kd wt.1.1.0) p.0 u p.1 p.2))
    kept_sound (LetIn b B t) c kc wt t' u v x y e g =
        let d : Context = Defined b B ∷ c in
        let kd : IsCountedContext E d = ((wt.1.0, wt.1.1.0), kc) in
        let k2 : BoxTerm → BoxTerm → Account → Run BoxTerm = λ b' t' w. done (BLetIn b' t') w in
        let k1 : BoxTerm → Account → Run BoxTerm = λ b' v. bind (erased E (infer E q n) d t v) (k2 b') in
        let p1 = bind_both (erased E (infer E q n) c b u) k1 t' v g in
        let p2 = bind_both (erased E (infer E q n) d t p1.1) (k2 p1.0) t' v p1.3 in
        subst (λ t'. Erases E c (LetIn b B t) t') (done_value p2.3)
        (let_in (tested_sound c b kc wt.1.0 (kept_sound b c kc wt.1.0) p1.0 u p1.1 p1.2)
        (tested_sound d t kd wt.1.1.1.0 (kept_sound t d kd wt.1.1.1.0) p2.0 p1.1 p2.1 p2.2))
    kept_sound (App f a) c kc wt t' u v x y e g =
        let k2 : BoxTerm → BoxTerm → Account → Run BoxTerm = λ f' a' w. done (BApp f' a') w in
        let k1 : BoxTerm → Account → Run BoxTerm = λ f' v. bind (erased E (infer E q n) c a v) (k2 f') in
        let p1 = bind_both (erased E (infer E q n) c f u) k1 t' v g in
        let p2 = bind_both (erased E (infer E q n) c a p1.1) (k2 p1.0) t' v p1.3 in
        subst (λ t'. Erases E c (App f a) t') (done_value p2.3)
        (app (tested_sound c f kc wt.1.0 (kept_sound f c kc wt.1.0) p1.0 u p1.1 p1.2)
        (tested_sound c a kc wt.1.1.0 (kept_sound a c kc wt.1.1.0) p2.0 p1.1 p2.1 p2.2))
    kept_sound (Const k) c kc wt t' u v x y e g = subst (λ t'. Erases E c (Const k) t') (done_value g) const
    kept_sound (Ind f) c kc wt t' u v x y e g = absurd (ind_not_plain E q n c f (type_none E (infer E q n) c (Ind f) x y e))
    kept_sound (Construct f k) c kc wt t' u v x y e g =
        let r = constructor_none E q n c f k (family_of E f) x y refl e in
        subst (λ t'. Erases E c (Construct f k) t') (done_value g) (Erases.construct (family_found E f r.family r.at) r.relevant)
    kept_sound (Case f ps m ret s bs) c kc wt t' u v x y e g =
        let fits = wt.0.1 in
        let F : FamilyDecl = fits.0 in
        let keeps : KeepsFamily E f F = family_found E f F fits.1 in
        let qs : List Term = list_of ps in
        let go : List Constructor → Account → Run BoxTerms = λ Cs w. kept_branches E (infer E q n) c qs Cs bs w in
        let k2 : BoxTerm → BoxTerms → Account → Run BoxTerm = λ s' bs' w. done (BCase f s' bs') w in
        let k1 : BoxTerm → Account → Run BoxTerm = λ s' v. bind (in_family f (family_of E f) go v) (k2 s') in
        let p1 = bind_both (erased E (infer E q n) c s u) k1 t' v g in
        let p2 = bind_both (in_family f (family_of E f) go p1.1) (k2 p1.0) t' v p1.3 in
        let at : (kept_branches E (infer E q n) c qs F.constructors bs p1.1).end ≡ run.Done p2.0 p2.1 =
        subst (λ o. (in_family f o go p1.1).end ≡ run.Done p2.0 p2.1) fits.1 p2.2 in
        let wps : AreCounted E qs = list_counted E ps wt.1.0 in
        let may = match_none E q n c f F ps m ret s bs x y fits.1 e in
        let long : length qs ≡ length F.parameters = list_long ps ∙ sym (names_long ps) ∙ fits.2 in
        subst (λ t'. Erases E c (Case f ps m ret s bs) t') (done_value p2.3)
        (subst (λ ts. Erases E c (Case f ts m ret s bs) (BCase f p1.0 p2.0)) (terms_are ps wt.0.0.0)
        (case qs keeps may long (tested_sound c s kc wt.1.1.1.0 (kept_sound s c kc wt.1.1.1.0) p1.0 u p1.1 p1.2)
        (branches_sound bs c qs F.constructors kc wps (kept_counted E f F w keeps).2 wt.1.1.1.1.0 fits.4 p2.0 p1.1 p2.1 at)))
    kept_sound (Fix i rargs types bodies) c kc wt t' u v x y e g =
        let D : Context = definitions c 0 types in
        let form = wt.0.0.0 in
        let kD : IsCountedContext E D = definitions_counted c 0 types kc wt.1.0 in
        let h1 = pass_then (any_beyond (lifted_types 0 (list_of types))) u
        (λ _ v. bind (kept_bodies E (infer E q n) D bodies v) (λ bodies' w. done (BFix i rargs bodies') w)) g in
        let p = bind_both (kept_bodies E (infer E q n) D bodies u) (λ bodies' w. done (BFix i rargs bodies') w) t' v h1 in
        let Ts : List Term = list_of types in
        let long : length rargs ≡ length Ts = sym form.0 ∙ names_long types ∙ sym (list_long types) in
        let same : terms_of Ts ≡ types = terms_are types form.1 in
        let bs : ErasesBodies E D (length Ts) bodies p.0 =
        subst (λ m. ErasesBodies E D m bodies p.0) long (bodies_sound bodies D (length rargs) kD wt.1.1.0 form.3 p.0 u p.1 p.2) in
        subst (λ t'. Erases E c (Fix i rargs types bodies) t') (done_value p.3)
        (subst (λ ts. Erases E c (Fix i rargs ts bodies) (BFix i rargs p.0)) same
        (fix Ts (subst (λ ts. ErasesBodies E (definitions c 0 ts) (length Ts) bodies p.0) (sym same) bs)))

    branches_sound : (bs : Terms) (c : Context) (ps : List Term) (Cs : List Constructor) → IsCountedContext E c → AreCounted E ps → AreCountedConstructors E Cs →
        EachTerm (IsCountedNode E) bs → binders_of bs ≡ arities Cs → (bs' : BoxTerms) (u v : Account) →
        (kept_branches E (infer E q n) c ps Cs bs u).end ≡ run.Done bs' v → ErasesBranches E c ps Cs bs bs'
    branches_sound syntax.Done c ps [] kc wps wCs wbs l bs' u v g = subst (λ bs'. ErasesBranches E c ps [] syntax.Done bs') (done_value g) ErasesBranches.no_branches
    branches_sound syntax.Done c ps (C ∷ Cs) kc wps wCs wbs l bs' u v g = no_cons (sym l)
    branches_sound (Next k t ts) c ps [] kc wps wCs wbs l bs' u v g = no_cons l
    branches_sound (Next k t ts) c ps (C ∷ Cs) kc wps wCs wbs l bs' u v g =
        let d : Context = extend c (branch_entries C ps) in
        let kd : IsCountedContext E d = context_extended E c (branch_entries C ps) kc (branch_entries_counted E C ps wCs.0.0 wps) in
        let k3 : BoxTerm → BoxTerms → Account → Run BoxTerms = λ t' ts' x. done (Next k t' ts') x in
        let k2 : BoxTerm → Account → Run BoxTerms = λ t' w. bind (kept_branches E (infer E q n) c ps Cs ts w) (k3 t') in
        let h1 = pass_then (any_beyond (branch_entries C ps)) u (λ _ v. bind (erased E (infer E q n) d t v) k2) g in
        let p1 = bind_both (erased E (infer E q n) d t u) k2 bs' v h1 in
        let p2 = bind_both (kept_branches E (infer E q n) c ps Cs ts p1.1) (k3 p1.0) bs' v p1.3 in
        subst (λ bs'. ErasesBranches E c ps (C ∷ Cs) (Next k t ts) bs') (done_value p2.3)
        (ErasesBranches.branch (first_same l) (tested_sound d t kd wbs.0 (kept_sound t d kd wbs.0) p1.0 u p1.1 p1.2)
        (branches_sound ts c ps Cs kc wps wCs.1 wbs.1 (rest_same l) p2.0 p1.1 p2.1 p2.2))

    bodies_sound : (bs : Terms) (c : Context) (m : ℕ) → IsCountedContext E c → EachTerm (IsCountedNode E) bs → AreAll m (binders_of bs) → (bs' : BoxTerms) (u v : Account) →
        (kept_bodies E (infer E q n) c bs u).end ≡ run.Done bs' v → ErasesBodies E c m bs bs'
    bodies_sound syntax.Done c m kc wbs a bs' u v g = subst (λ bs'. ErasesBodies E c m syntax.Done bs') (done_value g) ErasesBodies.no_bodies
    bodies_sound (Next k t ts) c m kc wbs a bs' u v g =
        let k2 : BoxTerm → BoxTerms → Account → Run BoxTerms = λ t' ts' w. done (Next k t' ts') w in
        let k1 : BoxTerm → Account → Run BoxTerms = λ t' v. bind (kept_bodies E (infer E q n) c ts v) (k2 t') in
        let p1 = bind_both (erased E (infer E q n) c t u) k1 bs' v g in
        let p2 = bind_both (kept_bodies E (infer E q n) c ts p1.1) (k2 p1.0) bs' v p1.3 in
        subst (λ bs'. ErasesBodies E c m (Next k t ts) bs') (done_value p2.3)
        (subst (λ k. ErasesBodies E c m (Next k t ts) (Next k p1.0 p2.0)) (sym a.0)
        (body (tested_sound c t kc wbs.0 (kept_sound t c kc wbs.0) p1.0 u p1.1 p1.2) (bodies_sound ts c m kc wbs.1 a.1 p2.0 p1.1 p2.1 p2.2)))

  pub erased_sound : (c : Context) (t : Term) (t' : BoxTerm) (u v : Account) → IsCountedContext E c → IsCounted E t → (erased E (infer E q n) c t u).end ≡ run.Done t' v →
      Erases E c t t'
  erased_sound c t t' u v kc wt g = tested_sound c t kc wt (kept_sound t c kc wt) t' u v g
