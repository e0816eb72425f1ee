-- Where the test of erasable terms finds evidence there is evidence of that kind.
use Rattle.std.proofs.Common.{◌≡◌, ℕ, zero, suc, Bool, true, false, if◌then◌else◌, List, [], ◌∷◌, length, Option, Some, None, slice_get, refl, sym, ap, ◌∙◌, subst}
use Rattle.calculus_rules.specs.declared.declaration.Constructor.{Constructor}
use Rattle.universe_levels.specs.declared.sort.Sort.{Sort}
use Rattle.universe_levels.specs.declared.sort.Sort.TheVariants.{Prop, Of}
use Rattle.pc_terms.specs.declared.leaf.FamilyId.{FamilyId}
use Rattle.pc_terms.specs.Syntax.{Term, Terms, SortT, Prod, Construct, Case, list_of}
use Rattle.calculus_rules.specs.declared.entry.Entry.TheVariants.{Assumed}
use Rattle.pc_rules.specs.declared.meter.Account.{Account}
use Rattle.calculus_rules.specs.Environment.{Env, FamilyDecl, KeepsFamily}
use Rattle.calculus_rules.specs.Context.{Context, values, extend}
use Rattle.calculus_rules.specs.Instances.{products, predicate_entries}
use Rattle.calculus_rules.specs.Conversion.{Equal, same, chain}
use Rattle.calculus_rules.specs.WeakHead.{then_step, no_step}
use Rattle.calculus_rules.specs.Typing.{bare, Types}
use Rattle.calculus_rules.specs.declared.evidence.Evidence.{Evidence}
use Rattle.calculus_rules.specs.declared.evidence.Evidence.TheVariants.{Proof, PropMatch, PropConstructor}
use Rattle.calculus_rules.specs.Erasable.{arity, proof, prop_match, prop_constructor}
use Rattle.pc_rules.specs.DirectedRun as run
use Rattle.pc_rules.specs.DirectedRun.{Run, done, no_unit, passing, is_beyond, any_beyond, bind, ticked}
use Rattle.calculus_rules.specs.Lookups.{family_of}
use Rattle.pc_rules.specs.DirectedWeakHead.{weak_next}
use Rattle.pc_rules.specs.DirectedTyping.{Typing, sort_of}
use Rattle.pc_rules.specs.DirectedErasable.{TypeEnding, ending_on, end_of, ends_in_sort, proof_found, arity_found, type_test, constructor_test, numbered_test, match_sort, match_test, erasable_test}
use Rattle.calculus_rules.specs.PropSorts.{is_prop}
use Rattle.pc_rules.specs.WellCounted.{IsCounted, HasCountedDeclarations, IsCountedContext}
use Rattle.calculus_rules.proofs.Spines.{one_item}
use Rattle.pc_rules.proofs.WeakNext.{weak_next_found, family_found, none_some}
use Rattle.calculus_rules.proofs.WeakHead.{weak_equal}
use Rattle.calculus_rules.proofs.Congruence.{equal_products}
use Rattle.calculus_rules.proofs.Bare.{bare_types}
use Rattle.rule_laws.specs.Erasability.{HasEvidence}
use Rattle.rule_laws.proofs.Runs.{bind_both, ticking_done, unit_done, done_value, pass_then}
use Rattle.rule_laws.proofs.Counted.{list_counted}
use Rattle.rule_laws.proofs.KeepCounts.{kept_counted}
use Rattle.rule_laws.proofs.CountedParts.{predicate_entries_counted, context_extended}
use Rattle.rule_laws.proofs.Comparing.{names_long, list_long}
use Rattle.rule_laws.proofs.SimpleRules.{Infers, formed, sort_sound}
use Rattle.rule_laws.proofs.MatchRule.{terms_are}
use Rattle.pc_rules.proofs.SameTrees.{false_true}

one_kind : {k l : Evidence} → Some k ≡ Some l → k ≡ l
one_kind e = one_item e

module _ (E : Env) where
  -- a type is equal to products that end in a sort
  abbrev IsArity : Context → Term → Type 0
  IsArity c T = (As : List Term) × (s : Sort) × Equal E (values c) T (products As (SortT s))

  arity_before : (c : Context) (T X : Term) → Equal E (values c) T X → IsArity c X → IsArity c T
  arity_before c T X e h = (h.0, h.1, chain e h.2)

  abbrev Ends : TypeEnding → Type 0
  Ends go = (c : Context) (T : Term) (u v : Account) → (go c T u).end ≡ run.Done true v → IsArity c T

  step_ends : (c : Context) (T : Term) (o : Option Term) (stay : Run Bool) (go : Term → Account → Run Bool) (u v : Account) → weak_next E (values c) T ≡ o →
      (stay.end ≡ run.Done true v → IsArity c T) → ((X : Term) (y : Account) → (go X y).end ≡ run.Done true v → IsArity c X) →
      (ending_on o stay go u).end ≡ run.Done true v → IsArity c T
  step_ends c T None stay go u v e f g h = f h
  step_ends c T (Some X) stay go u v e f g h =
      let h1 = ticking_done u (λ v. bind (passing (is_beyond X) v) (λ _ w. go X w)) true v h in
      let h2 = pass_then (is_beyond X) (ticked u) (λ _ w. go X w) h1 in
      arity_before c T X (weak_equal (then_step (weak_next_found E (values c) T X e) no_step)) (g X (ticked u) h2)

  module _ (go : TypeEnding) (sound : Ends go) where
    end_sound : (c : Context) (T : Term) (u v : Account) → (end_of E go c T u).end ≡ run.Done true v → IsArity c T
    end_sound c (SortT s) u v h = ([], s, same)
    end_sound c (Prod A B) u v h =
        let d : Context = Assumed A ∷ c in
        let r : IsArity d B = step_ends d B (weak_next E (values d) B) (end_of E go d B u) (go d) u v refl (end_sound d B u v) (λ X y h. sound d X y v h) h in
        (A ∷ r.0, r.1, equal_products E (values c) A A B (products r.0 (SortT r.1)) same r.2)
    end_sound c T u v h = false_true (done_value h)

  ends_sound : (n : ℕ) → Ends (ends_in_sort E n)
  unfolding ends_in_sort
  ends_sound zero c T u v h =
      let none : TypeEnding = λ d T v. no_unit in
      step_ends c T (weak_next E (values c) T) (end_of E none c T u) (λ T v. no_unit) u v refl
      (end_sound none (λ c T u v h. absurd (unit_done h)) c T u v) (λ X y h. absurd (unit_done h)) h
  ends_sound (suc n) c T u v h =
      step_ends c T (weak_next E (values c) T) (end_of E (ends_in_sort E n) c T u) (ends_in_sort E n c) u v refl
      (end_sound (ends_in_sort E n) (ends_sound n) c T u v) (λ X y h. ends_sound n c X y v h) h

  module _ (w : HasCountedDeclarations E) (inf : Typing) (si : Infers E inf) where
    prop_found : (s : Sort) (k : Evidence) → (if is_prop s then Some Proof else None) ≡ Some k → (s ≡ Prop) × (Proof ≡ k)
    prop_found Prop k e = (refl, one_kind e)
    prop_found (Of x) k e = absurd (none_some e)

    arity_sound : (c : Context) (t T : Term) (b : Bool) (k : Evidence) (u v : Account) → IsCountedContext E c → Types bare E c t T → IsCounted E T →
        (b ≡ true → IsArity c T) → (arity_found E inf c T b u).end ≡ run.Done (Some k) v → HasEvidence E c t k
    arity_sound c t T true k u v kc p wT f h = let a = f refl in (arity a.0 a.1 p a.2, one_kind (done_value h))
    arity_sound c t T false k u v kc p wT f h =
        let r = bind_both (sort_of E inf c T u) (λ s v. proof_found s v) (Some k) v h in
        let s = sort_sound E w inf si c T r.0 u r.1 kc (formed E T wT) r.2 in
        let q = prop_found r.0 k (done_value r.3) in
        (proof p (subst (λ s. Types bare E c T (SortT s)) q.0 (bare_types s.0)), q.1)

    type_sound : (c : Context) (t : Term) (k : Evidence) (u v : Account) → IsCountedContext E c → IsCounted E t → (type_test E inf c t u).end ≡ run.Done (Some k) v →
        HasEvidence E c t k
    type_sound c t k u v kc wt h =
        let k1 : Term → Account → Run (Option Evidence) = λ T v. bind (ends_in_sort E v.left c T v) (λ b w. arity_found E inf c T b w) in
        let p1 = bind_both (inf c t u) k1 (Some k) v h in
        let T : Term = p1.0 in
        let p2 = bind_both (ends_in_sort E p1.1.left c T p1.1) (λ b w. arity_found E inf c T b w) (Some k) v p1.3 in
        let i = si c t T u p1.1 kc (formed E t wt) p1.2 in
        arity_sound c t T p2.0 k p2.1 v kc (bare_types i.typed) i.classifier
        (λ e. ends_sound p1.1.left c T p1.1 p2.1 (subst (λ b. (ends_in_sort E p1.1.left c T p1.1).end ≡ run.Done b p2.1) e p2.2)) p2.3

    constructor_prop : (c : Context) (f : FamilyId) (n : ℕ) (F : FamilyDecl) (C : Constructor) (s : Sort) (k : Evidence) (u v : Account) → IsCountedContext E c → family_of E f ≡ Some F →
        F.sort ≡ s → slice_get F.constructors n ≡ Some C → (if is_prop s then done (Some PropConstructor) u else type_test E inf c (Construct f n) u).end ≡ run.Done (Some k) v → HasEvidence E c (Construct f n) k
    constructor_prop c f n F C Prop k u v kc e s is h = (prop_constructor (family_found E f F e) s is, one_kind (done_value h))
    constructor_prop c f n F C (Of x) k u v kc e s is h = type_sound c (Construct f n) k u v kc (((tt, tt), tt), tt) h

    numbered_sound : (c : Context) (f : FamilyId) (n : ℕ) (F : FamilyDecl) (o : Option Constructor) (k : Evidence) (u v : Account) → IsCountedContext E c → family_of E f ≡ Some F →
        slice_get F.constructors n ≡ o → (numbered_test E inf c (Construct f n) F.sort o u).end ≡ run.Done (Some k) v → HasEvidence E c (Construct f n) k
    numbered_sound c f n F None k u v kc e is h = type_sound c (Construct f n) k u v kc (((tt, tt), tt), tt) h
    numbered_sound c f n F (Some C) k u v kc e is h = constructor_prop c f n F C F.sort k u v kc e refl is h

    constructor_sound : (c : Context) (f : FamilyId) (n : ℕ) (o : Option FamilyDecl) (k : Evidence) (u v : Account) → IsCountedContext E c → family_of E f ≡ o →
        (constructor_test E inf c (Construct f n) n o u).end ≡ run.Done (Some k) v → HasEvidence E c (Construct f n) k
    constructor_sound c f n None k u v kc e h = type_sound c (Construct f n) k u v kc (((tt, tt), tt), tt) h
    constructor_sound c f n (Some F) k u v kc e h = numbered_sound c f n F (slice_get F.constructors n) k u v kc e refl h

    match_prop : (c : Context) (t : Term) (s : Sort) (k : Evidence) (u v : Account) → IsCountedContext E c → IsCounted E t → (s ≡ Prop → HasEvidence E c t PropMatch) →
        (match_sort E inf c t s u).end ≡ run.Done (Some k) v → HasEvidence E c t k
    match_prop c t Prop k u v kc wt f h = let e = f refl in (e.0, e.1 ∙ one_kind (done_value h))
    match_prop c t (Of x) k u v kc wt f h = type_sound c t k u v kc wt h

    match_sound : (c : Context) (f : FamilyId) (ps : Terms) (n : ℕ) (ret s : Term) (bs : Terms) (o : Option FamilyDecl) (k : Evidence) (u v : Account) → IsCountedContext E c →
        IsCounted E (Case f ps n ret s bs) → family_of E f ≡ o → (match_test E inf c (Case f ps n ret s bs) f (list_of ps) ret o u).end ≡ run.Done (Some k) v →
        HasEvidence E c (Case f ps n ret s bs) k
    match_sound c f ps n ret s bs None k u v kc wt e h = type_sound c (Case f ps n ret s bs) k u v kc wt h
    match_sound c f ps n ret s bs (Some F) k u v kc wt e h =
        let t : Term = Case f ps n ret s bs in
        let qs : List Term = list_of ps in
        let D : Context = extend c (predicate_entries f F qs) in
        let h1 = pass_then (any_beyond (predicate_entries f F qs)) u (λ _ v. bind (sort_of E inf D ret v) (λ s w. match_sort E inf c t s w)) h in
        let p = bind_both (sort_of E inf D ret u) (λ s w. match_sort E inf c t s w) (Some k) v h1 in
        let fits = wt.0.1 in
        let same_family : fits.0 ≡ F = one_item (sym fits.1 ∙ e) in
        let keeps : KeepsFamily E f F = family_found E f F e in
        let kD : IsCountedContext E D =
        context_extended E c (predicate_entries f F qs) kc (predicate_entries_counted E f F qs (kept_counted E f F w keeps) (list_counted E ps wt.1.0)) in
        let r = sort_sound E w inf si D ret p.0 u p.1 kD (formed E ret wt.1.1.0) p.2 in
        let variables : n ≡ suc (length F.indices) = fits.3 ∙ ap (λ F. suc (length F.indices)) same_family in
        let long : length qs ≡ length F.parameters = list_long ps ∙ sym (names_long ps) ∙ fits.2 ∙ ap (λ F. length F.parameters) same_family in
        match_prop c t p.0 k p.1 v kc wt
        (λ q. subst (λ ps. HasEvidence E c (Case f ps n ret s bs) PropMatch) (terms_are ps wt.0.0.0)
        (prop_match qs keeps variables long (subst (λ s. Types bare E D ret (SortT s)) q (bare_types r.0)), refl)) p.3

    pub evidence_sound : (c : Context) (t : Term) (k : Evidence) (u v : Account) → IsCountedContext E c → IsCounted E t →
        (erasable_test E inf c t u).end ≡ run.Done (Some k) v → HasEvidence E c t k
    evidence_sound c (Construct f n) k u v kc wt h = constructor_sound c f n (family_of E f) k u v kc refl h
    evidence_sound c (Case f ps n ret s bs) k u v kc wt h = match_sound c f ps n ret s bs (family_of E f) k u v kc wt refl h
    evidence_sound c t k u v kc wt h = type_sound c t k u v kc wt h
