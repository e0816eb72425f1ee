-- Rules 1 to 9 and 12 of the certified walk give types.
use Rattle.std.proofs.Common.{◌≡◌, ℕ, zero, suc, false, ◌∷◌, Option, Some, refl, subst, slice_get}
use Rattle.universe_levels.specs.declared.sort.Sort.{Sort}
use Rattle.universe_levels.specs.Consistency.{IsSortOver}
use Rattle.universe_levels.proofs.OverLemmas.{over-product_sort}
use Rattle.universe_levels.specs.Sorts.{product_sort}
use Rattle.pc_terms.specs.Syntax.{Term, SortT, put, substitute, Prod, Lambda, LetIn, App}
use Rattle.pc_terms.specs.Formed.{IsFormed}
use Rattle.calculus_rules.specs.declared.entry.Entry.TheVariants.{Assumed, Defined}
use Rattle.calculus_rules.specs.Environment.{Env}
use Rattle.calculus_rules.specs.Context.{Context, values}
use Rattle.calculus_rules.specs.Conversion.{Equal, equal as of_equal}
use Rattle.calculus_rules.specs.Typing.{guarded, Types, sort, prod, lambda, let_in, app, conv as convert}
use Rattle.calculus_rules.specs.Same.{same}
use Rattle.calculus_rules.proofs.WeakHead.{weak_equal}
use Rattle.pc_rules.specs.DirectedRun.{make}
use Rattle.pc_rules.specs.WellCounted.{IsCounted, HasCountedDeclarations, IsCountedContext}
use Rattle.pc_rules.proofs.SameTrees.{same_is}
use Rattle.rule_laws.specs.Inference.{IsInferred}
use Rattle.rule_laws.proofs.Runs.{done_value}
use Rattle.rule_laws.proofs.Counted.{put_counted, substituted_counted, app_counted}
use Rattle.rule_laws.proofs.KeepCounts.{values_counted, steps_counted}
use Rattle.rule_laws.proofs.CountedParts.{prod_counted, sort_counted}
use Rattle.rule_laws.proofs.SimpleRules.{formed, sort_declared}
use Rattle.cert_rules.specs.declared.item.CertItem.{CertItem}
use Rattle.cert_rules.specs.declared.item.CertItem.TheVariants.{Same, Conv}
use Rattle.cert_rules.specs.Walk.{Items, WalkState, Walk, Passed, pass, past, walk_on, by_rules}
use Rattle.cert_rules.specs.WalkSteps.{Reduced, reduced}
use Rattle.cert_rules.specs.Scripts.{Script}
use Rattle.cert_rules.specs.WalkTyping.{Walking, sort_after, walk_sort_found, walk_sort_of, walk_retype, fits_by, walk_fits, walk_check, walk_prod, walk_lambda, walk_let, walk_app_found, walk_app}
use Rattle.cert_rules.proofs.PassedWalks.{on_both, tested, barred_passed, passed_value, rules_passed, reduced_passed}
use Rattle.cert_rules.proofs.SoundScripts.{Shows}

-- a walk that has been found sound
abbrev pub Infers : Env → Walking → Type 0
Infers E inf = (c : Context) (t T : Term) (s s' : WalkState) → IsCountedContext E c → IsFormed t → (inf c t s).end ≡ Passed T s' → IsInferred E c t T

-- a term that is made at the end
pub made_is : (X T : Term) (s v : WalkState) → (by_rules (make X) s).end ≡ Passed T v → X ≡ T
made_is X T s v h = done_value (rules_passed (make X) s T v h).1

module _ (cert : Items) (E : Env) (w : HasCountedDeclarations E) (inf : Walking) (si : Infers E inf) where
  after_sound : (c : Context) (a T : Term) (r : Sort) (n : ℕ) (x : Sort) (s v : WalkState) → IsCountedContext E c → Types guarded E c a T → Equal E (values c) T (SortT r) →
      (n ≡ 0 → T ≡ SortT r) → (sort_after inf c r n s).end ≡ Passed x v → Types guarded E c a (SortT x)
  after_sound c a T r zero x s v k t e z h =
      subst (λ x. Types guarded E c a (SortT x)) (passed_value h) (subst (λ X. Types guarded E c a X) (z refl) t)
  after_sound c a T r (suc n) x s v k t e z h =
      let p = on_both (inf c (SortT r) s) (λ _ w. pass r w) x v h in
      let i = si c (SortT r) p.0 s p.1 k ((tt, tt), tt) p.2 in
      subst (λ x. Types guarded E c a (SortT x)) (passed_value p.3) (convert t (of_equal e) (sort (sort_declared i.typed)))

  found_sound : (c : Context) (a T W : Term) (i n : ℕ) (x : Sort) (s v : WalkState) → IsCountedContext E c → Types guarded E c a T → Equal E (values c) T W →
      (n ≡ 0 → T ≡ W) → (walk_sort_found inf c i n W s).end ≡ Passed x v → Types guarded E c a (SortT x)
  found_sound c a T (SortT r) i n x s v k t e z h = after_sound c a T r n x s v k t e z h
  found_sound c a T W i n x s v k t e z h = absurd (barred_passed h)

  after_over : (c : Context) (r : Sort) (n : ℕ) (x : Sort) (s v : WalkState) → IsSortOver E.levels r → (sort_after inf c r n s).end ≡ Passed x v → IsSortOver E.levels x
  after_over c r zero x s v o h = subst (λ x. IsSortOver E.levels x) (passed_value h) o
  after_over c r (suc n) x s v o h =
      let p = on_both (inf c (SortT r) s) (λ _ w. pass r w) x v h in
      subst (λ x. IsSortOver E.levels x) (passed_value p.3) o

  found_over : (c : Context) (W : Term) (i n : ℕ) (x : Sort) (s v : WalkState) → IsCounted E W → (walk_sort_found inf c i n W s).end ≡ Passed x v → IsSortOver E.levels x
  found_over c (SortT r) i n x s v wW h = after_over c r n x s v wW.0.1 h
  found_over c W i n x s v wW h = absurd (barred_passed h)

  -- a term's sort
  pub sort_sound : (c : Context) (A : Term) (x : Sort) (s v : WalkState) → IsCountedContext E c → IsFormed A → (walk_sort_of cert E inf c A s).end ≡ Passed x v →
      Types guarded E c A (SortT x) × IsCounted E A × IsSortOver E.levels x
  unfolding walk_sort_of
  sort_sound c A x s v k f h =
      let k2 : Reduced → WalkState → Walk Sort = λ r w. walk_sort_found inf c r.item r.count r.term w in
      let p1 = on_both (inf c A s) (λ T v. walk_on (reduced cert E (values c) T v) k2) x v h in
      let p2 = on_both (reduced cert E (values c) p1.0 p1.1) k2 x v p1.3 in
      let r : Reduced = p2.0 in
      let i = si c A p1.0 s p1.1 k f p1.2 in
      let d = reduced_passed E (values c) cert p1.0 r p1.1 p2.1 p2.2 in (
        found_sound c A p1.0 r.term r.item r.count x p2.1 v k i.typed (weak_equal d.steps) d.still p2.3,
        i.subject,
        found_over c r.term r.item r.count x p2.1 v (steps_counted E w (values_counted E c k) d.steps i.classifier) p2.3,
      )

  pub retype_sound : (c : Context) (t T W : Term) (n : ℕ) (s v : WalkState) → IsCountedContext E c → IsCounted E W → Types guarded E c t T → Equal E (values c) T W →
      (n ≡ 0 → T ≡ W) → (walk_retype cert E inf c n W s).end ≡ Passed tt v → Types guarded E c t W
  unfolding walk_retype
  retype_sound c t T W zero s v k wc p e z h = subst (λ X. Types guarded E c t X) (z refl) p
  retype_sound c t T W (suc n) s v k wc p e z h =
      let q = on_both (walk_sort_of cert E inf c W s) (λ _ w. pass tt w) tt v h in
      convert p (of_equal e) (sort_sound c W q.0 s q.1 k (formed E W wc) q.2).0

  pub prod_rule_sound : (c : Context) (A B T : Term) (s v : WalkState) → IsCountedContext E c → IsFormed A → IsFormed B → (walk_prod cert E inf c A B s).end ≡ Passed T v →
      IsInferred E c (Prod A B) T
  prod_rule_sound c A B T s v k fA fB h =
      let p1 = on_both (walk_sort_of cert E inf c A s) (λ x v. walk_on (walk_sort_of cert E inf (Assumed A ∷ c) B v) (λ y w. pass (SortT (product_sort x y)) w)) T v h in
      let p2 = on_both (walk_sort_of cert E inf (Assumed A ∷ c) B p1.1) (λ y w. pass (SortT (product_sort p1.0 y)) w) T v p1.3 in
      let a = sort_sound c A p1.0 s p1.1 k fA p1.2 in
      let b = sort_sound (Assumed A ∷ c) B p2.0 p1.1 p2.1 (a.1, k) fB p2.2 in
      subst (λ T. IsInferred E c (Prod A B) T) (passed_value p2.3)
      (record { typed = prod a.0 b.0; subject = prod_counted E A B a.1 b.1; classifier = sort_counted E (product_sort p1.0 p2.0) (over-product_sort E.levels p1.0 p2.0 a.2 b.2) })

  pub lambda_rule_sound : (c : Context) (A b T : Term) (s v : WalkState) → IsCountedContext E c → IsFormed A → IsFormed b → (walk_lambda cert E inf c A b s).end ≡ Passed T v →
      IsInferred E c (Lambda A b) T
  lambda_rule_sound c A b T s v k fA fb h =
      let p1 = on_both (walk_sort_of cert E inf c A s) (λ _ v. walk_on (inf (Assumed A ∷ c) b v) (λ B w. by_rules (make (Prod A B)) w)) T v h in
      let p2 = on_both (inf (Assumed A ∷ c) b p1.1) (λ B w. by_rules (make (Prod A B)) w) T v p1.3 in
      let a = sort_sound c A p1.0 s p1.1 k fA p1.2 in
      let i = si (Assumed A ∷ c) b p2.0 p1.1 p2.1 (a.1, k) fb p2.2 in
      subst (λ T. IsInferred E c (Lambda A b) T) (made_is (Prod A p2.0) T p2.1 v p2.3)
      (record { typed = lambda a.0 i.typed; subject = (((tt, tt), tt), (a.1, (i.subject, tt))); classifier = prod_counted E A p2.0 a.1 i.classifier })

  module _ (cmp : Script) (sc : Shows E cmp) where
    by_sound : (c : Context) (t S T : Term) (o : Option CertItem) (s v : WalkState) → IsCountedContext E c → Types guarded E c t S → IsFormed T →
        (fits_by cert E inf cmp c S T o s).end ≡ Passed tt v → Types guarded E c t T
    by_sound c t S T (Some Same) s v k p fT h =
        subst (λ X. Types guarded E c t X) (same_is S T (tested (same S T) (pass tt (past s)) s.at s tt v h).0) p
    by_sound c t S T (Some Conv) s v k p fT h =
        let q = on_both (walk_sort_of cert E inf c T (past s)) (λ _ w. cmp (values c) false S T w) tt v h in
        convert p (sc (values c) false S T q.1 v q.3) (sort_sound c T q.0 (past s) q.1 k fT q.2).0
    by_sound c t S T o s v k p fT h = absurd (barred_passed h)

    -- from the type that is found to the one that is asked for
    pub fits_sound : (c : Context) (t S T : Term) (s v : WalkState) → IsCountedContext E c → Types guarded E c t S → IsFormed T →
        (walk_fits cert E inf cmp c S T s).end ≡ Passed tt v → Types guarded E c t T
    unfolding walk_fits
    fits_sound c t S T s v k p fT h = by_sound c t S T (slice_get cert s.at) s v k p fT h

    -- a term against a type
    pub check_sound : (c : Context) (t T : Term) (s v : WalkState) → IsCountedContext E c → IsFormed t → IsFormed T → (walk_check cert E inf cmp c t T s).end ≡ Passed tt v →
        Types guarded E c t T × IsCounted E t
    unfolding walk_check
    check_sound c t T s v k ft fT h =
        let p1 = on_both (inf c t s) (λ S v. walk_fits cert E inf cmp c S T v) tt v h in
        let i = si c t p1.0 s p1.1 k ft p1.2 in
        (fits_sound c t p1.0 T p1.1 v k i.typed fT p1.3, i.subject)

    pub let_rule_sound : (c : Context) (b B t T : Term) (s v : WalkState) → IsCountedContext E c → IsFormed b → IsFormed B → IsFormed t →
        (walk_let cert E inf cmp c b B t s).end ≡ Passed T v → IsInferred E c (LetIn b B t) T
    let_rule_sound c b B t T s v k fb fB ft h =
        let k3 : Term → WalkState → Walk Term = λ T x. by_rules (make (LetIn b B T)) x in
        let k2 : Unit {0} → WalkState → Walk Term = λ _ w. walk_on (inf (Defined b B ∷ c) t w) k3 in
        let p1 = on_both (walk_sort_of cert E inf c B s) (λ _ v. walk_on (walk_check cert E inf cmp c b B v) k2) T v h in
        let p2 = on_both (walk_check cert E inf cmp c b B p1.1) k2 T v p1.3 in
        let p3 = on_both (inf (Defined b B ∷ c) t p2.1) k3 T v p2.3 in
        let x = sort_sound c B p1.0 s p1.1 k fB p1.2 in
        let d = check_sound c b B p1.1 p2.1 k fb fB p2.2 in
        let i = si (Defined b B ∷ c) t p3.0 p2.1 p3.1 ((d.1, x.1), k) ft p3.2 in
        subst (λ T. IsInferred E c (LetIn b B t) T) (made_is (LetIn b B p3.0) T p3.1 v p3.3)
        (record {
          typed = let_in x.0 d.0 i.typed;
          subject = (((tt, tt), tt), (d.1, (x.1, (i.subject, tt))));
          classifier = (((tt, tt), tt), (d.1, (x.1, (i.classifier, tt))));
        })

    app_found_sound : (c : Context) (f a T0 W T : Term) (i n : ℕ) (s v : WalkState) → IsCountedContext E c → IsCounted E f → IsFormed a → IsCounted E W →
        Types guarded E c f T0 → Equal E (values c) T0 W → (n ≡ 0 → T0 ≡ W) → (walk_app_found cert E inf cmp c a i n W s).end ≡ Passed T v → IsInferred E c (App f a) T
    app_found_sound c f a T0 (Prod A B) T i n s v k wf fa wW p e z h =
        let k2 : Unit {0} → WalkState → Walk Term = λ _ w. by_rules (make (substitute (put a) B)) w in
        let p1 = on_both (walk_retype cert E inf c n (Prod A B) s) (λ _ v. walk_on (walk_check cert E inf cmp c a A v) k2) T v h in
        let p2 = on_both (walk_check cert E inf cmp c a A p1.1) k2 T v p1.3 in
        let r = retype_sound c f T0 (Prod A B) n s p1.1 k wW p e z p1.2 in
        let d = check_sound c a A p1.1 p2.1 k fa (formed E A wW.1.0) p2.2 in
        subst (λ T. IsInferred E c (App f a) T) (made_is (substitute (put a) B) T p2.1 v p2.3)
        (record {
          typed = app r d.0;
          subject = app_counted E f a wf d.1;
          classifier = substituted_counted E (put a) B (put_counted E a d.1) wW.1.1.0;
        })
    app_found_sound c f a T0 W T i n s v k wf fa wW p e z h = absurd (barred_passed h)

    pub app_rule_sound : (c : Context) (f a T : Term) (s v : WalkState) → IsCountedContext E c → IsFormed f → IsFormed a → (walk_app cert E inf cmp c f a s).end ≡ Passed T v →
        IsInferred E c (App f a) T
    app_rule_sound c f a T s v k ff fa h =
        let k2 : Reduced → WalkState → Walk Term = λ r w. walk_app_found cert E inf cmp c a r.item r.count r.term w in
        let p1 = on_both (inf c f s) (λ T v. walk_on (reduced cert E (values c) T v) k2) T v h in
        let p2 = on_both (reduced cert E (values c) p1.0 p1.1) k2 T v p1.3 in
        let r : Reduced = p2.0 in
        let i = si c f p1.0 s p1.1 k ff p1.2 in
        let d = reduced_passed E (values c) cert p1.0 r p1.1 p2.1 p2.2 in
        app_found_sound c f a p1.0 r.term T r.item r.count p2.1 v k i.subject fa
        (steps_counted E w (values_counted E c k) d.steps i.classifier) i.typed (weak_equal d.steps) d.still p2.3
