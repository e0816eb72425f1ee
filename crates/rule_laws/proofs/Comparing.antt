-- What the directed comparison finds to be equal, or below, is so.
use Rattle.std.proofs.Common.{◌≡◌, ℕ, zero, suc, ◌+◌, ◌==◌, ◌&&◌, inl, inr, Bool, true, false, List, [], ◌∷◌, length, Some, None, refl, sym, ap, ◌∙◌, subst, arith, length-append}
use Rattle.std.proofs.lemmas.Bool.{eqb-true}
use Rattle.universe_levels.specs.declared.sort.Sort.{Sort}
use Rattle.universe_levels.specs.declared.sort.Sort.TheVariants.{Prop, Of}
use Rattle.pc_terms.specs.declared.leaf.FamilyId.{FamilyId}
use Rattle.pc_terms.specs.Syntax.{Term, Terms, Done, Next, Rel, SortT, Prod, Lambda, App, Const, Ind, Construct, Case, Fix, apply, head, args, number, list_of}
use Rattle.pc_terms.specs.Formed.{binders_of, EachTerm, AreAll}
use Rattle.calculus_rules.specs.declared.declaration.Constructor.{Constructor}
use Rattle.calculus_rules.specs.declared.entry.Entry.TheVariants.{Assumed}
use Rattle.pc_rules.specs.declared.broken.Broken.TheVariants.{NotBelow}
use Rattle.pc_rules.specs.declared.broken.Clash.TheVariants.{Terms as ClashOfTerms, Sorts as ClashOfSorts}
use Rattle.pc_rules.specs.declared.meter.Account.{Account}
use Rattle.calculus_rules.specs.Environment.{Env, FamilyDecl, SortEntails}
use Rattle.calculus_rules.specs.Context.{Context, Values, values, under, extend}
use Rattle.calculus_rules.specs.Instances.{entries_at, predicate_entries, branch_entries}
use Rattle.calculus_rules.specs.Conversion.{Equal, EqualTerms, same as the_same, back, chain, sorts, Below, equal as of_equal, sort as of_sorts, product}
use Rattle.calculus_rules.specs.Conversion as conversion
use Rattle.calculus_rules.specs.Same.{same, same_numbers, same_families}
use Rattle.pc_rules.specs.DirectedRun as run
use Rattle.pc_rules.specs.DirectedRun.{Run, done, too_nested, passing, any_beyond, ticked, bind, run_all}
use Rattle.calculus_rules.specs.Lookups.{family_of}
use Rattle.pc_rules.specs.DirectedWeakHead.{whnf}
use Rattle.pc_rules.specs.DirectedComparison.{Test, IsTest, sort_below, sorts_stand, Comparison, alike, each_equal, entering, branches_equal, matches_equal, lifted_types, fixpoints_equal, heads_equal, spines_equal, pair, entered, compare}
use Rattle.pc_rules.specs.WellCounted.{arities, IsCounted, AreCounted, HasCountedDeclarations, AreCountedValues, IsCountedNode}
use Rattle.pc_rules.proofs.WeakNext.{same_names_is, same_families_is, both_true}
use Rattle.calculus_rules.proofs.Spines.{spine_is}
use Rattle.calculus_rules.proofs.Listing.{first_same, rest_same}
use Rattle.pc_rules.proofs.SameTrees.{same_is, same_numbers_is, false_true}
use Rattle.calculus_rules.proofs.WeakHead.{weak_equal}
use Rattle.pc_rules.proofs.FairReduction.{steps_lead}
use Rattle.calculus_rules.proofs.Congruence.{equal_products, equal_lambdas, equal_applications, equal_matches, equal_fixpoints}
use Rattle.calculus_rules.proofs.Telescopes.{entries_at_length}
use Rattle.rule_laws.specs.Comparison.{Compares}
use Rattle.rule_laws.proofs.Runs.{bind_both, ticking_done, if_done, tested, nested_done, run_both}
use Rattle.rule_laws.proofs.Counted.{head_counted, args_counted, list_counted}
use Rattle.rule_laws.proofs.KeepCounts.{under_counted, values_extended, steps_counted}

pub names_long : (ts : Terms) → length (binders_of ts) ≡ number ts
names_long Done = refl
names_long (Next n t ts) = ap suc (names_long ts)

pub list_long : (ts : Terms) → length (list_of ts) ≡ number ts
list_long Done = refl
list_long (Next n t ts) = ap suc (list_long ts)

pub lifted_long : (n : ℕ) (Ts : List Term) → length (lifted_types n Ts) ≡ length Ts
lifted_long n [] = refl
lifted_long n (T ∷ Ts) = ap suc (lifted_long (suc n) Ts)

pub no_suc : {A : Type 0} {n : ℕ} → suc n ≡ 0 → A
no_suc e = absurd (omega arith)

pub no_cons : {A : Type 0} {n : ℕ} {ns : List ℕ} → n ∷ ns ≡ [] → A
no_cons e = absurd (cc)

module _ (E : Env) where
  -- terms one by one
  abbrev pub EachEqual : Values → List Term → List Term → Type 0
  EachEqual V [] [] = Unit {0}
  EachEqual V (t ∷ ts) (u ∷ us) = Equal E V t u × EachEqual V ts us
  EachEqual V _ _ = ⊥

  apply_equal : (V : Values) (f g : Term) (xs ys : List Term) → Equal E V f g → EachEqual V xs ys → Equal E V (apply f xs) (apply g ys)
  apply_equal V f g [] [] p h = p
  apply_equal V f g (x ∷ xs) (y ∷ ys) p h = apply_equal V (App f x) (App g y) xs ys (equal_applications E V f g x y p h.0) h.1
  apply_equal V f g [] (y ∷ ys) p h = absurd h
  apply_equal V f g (x ∷ xs) [] p h = absurd h

  next_equal : (V : Values) (n m m' : ℕ) (t t' : Term) (ts ts' : Terms) → m ≡ n → m' ≡ n → Equal E (under n V) t t' → EqualTerms E V ts ts' →
      EqualTerms E V (Next m t ts) (Next m' t' ts')
  next_equal V n m m' t t' ts ts' e e' p h =
      subst (λ x. EqualTerms E V (Next x t ts) (Next m' t' ts')) (sym e)
      (subst (λ x. EqualTerms E V (Next n t ts) (Next x t' ts')) (sym e') (conversion.next p h))

  -- terms that are all under n variables
  all_equal : (V : Values) (n : ℕ) (ts us : Terms) → AreAll n (binders_of ts) → AreAll n (binders_of us) → EachEqual (under n V) (list_of ts) (list_of us) →
      EqualTerms E V ts us
  all_equal V n Done Done a b h = conversion.done
  all_equal V n (Next m t ts) (Next m' u us) a b h = next_equal V n m m' t u ts us a.0 b.0 h.0 (all_equal V n ts us a.1 b.1 h.1)
  all_equal V n Done (Next m' u us) a b h = absurd h
  all_equal V n (Next m t ts) Done a b h = absurd h

  pub of_same : (V : Values) (a b : Term) → same a b ≡ true → Equal E V a b
  of_same V a b h = subst (λ x. Equal E V a x) (same_is a b h) the_same

  pub whnf_equal : (V : Values) (a x : Term) (u v : Account) → (whnf E V a u).end ≡ run.Done x v → Equal E V a x
  whnf_equal V a x u v h = weak_equal (steps_lead E V u.left a x u v h)

  pub whnf_counted : HasCountedDeclarations E → (V : Values) → AreCountedValues E V → (a x : Term) (u v : Account) → IsCounted E a →
      (whnf E V a u).end ≡ run.Done x v → IsCounted E x
  whnf_counted w V k a x u v c h = steps_counted E w k (steps_lead E V u.left a x u v h) c

  pub weaker : (equal : Bool) (V : Values) (a b : Term) → Equal E V a b → Compares E equal V a b
  weaker true V a b h = h
  weaker false V a b h = of_equal h

  around : (equal : Bool) (V : Values) (a b x y : Term) → Equal E V a x → Equal E V b y → Compares E equal V x y → Compares E equal V a b
  around true V a b x y p q h = chain p (chain h (back q))
  around false V a b x y p q h = Below.chain (of_equal p) (Below.chain h (of_equal (back q)))

  extended_counted : (c : Context) (As : List Term) → AreCountedValues E (values c) → AreCountedValues E (values (extend c As))
  extended_counted c As h = subst (λ V. AreCountedValues E V) (sym (values_extended E c As)) (under_counted E (length As) (values c) h)

  -- a comparison that has been found sound
  abbrev pub IsSound : Comparison → Type 0
  IsSound cmp = (c : Context) (equal : Bool) (a b : Term) (u v : Account) → AreCountedValues E (values c) → IsCounted E a → IsCounted E b →
      (cmp c equal a b u).end ≡ run.Done tt v → Compares E equal (values c) a b

  each_sound : (cmp : Comparison) → IsSound cmp → (c : Context) → AreCountedValues E (values c) → (ts us : List Term) (u v : Account) → length ts ≡ length us → AreCounted E ts → AreCounted E us →
      (run_all (each_equal cmp c ts us) u).end ≡ run.Done tt v → EachEqual (values c) ts us
  each_sound cmp sound c vs [] [] u v l h k e = tt
  each_sound cmp sound c vs [] (y ∷ us) u v l h k e = no_suc (sym l)
  each_sound cmp sound c vs (x ∷ ts) [] u v l h k e = no_suc l
  each_sound cmp sound c vs (x ∷ ts) (y ∷ us) u v l h k e =
      let r = run_both (λ u. cmp c true x y u) (each_equal cmp c ts us) u v e in
      (sound c true x y u r.0 vs h.0 k.0 r.1, each_sound cmp sound c vs ts us r.0 v (omega arith) h.1 k.1 r.2)

  module _ (cmp : Comparison) (sound : IsSound cmp) (c : Context) (vs : AreCountedValues E (values c)) where
    -- what is under a telescope's entries
    entering_sound : (As : List Term) (n : ℕ) (a b : Term) (u v : Account) → length As ≡ n → IsCounted E a → IsCounted E b →
        (entering c As (λ d. cmp d true a b) u).end ≡ run.Done tt v → Equal E (under n (values c)) a b
    entering_sound As n a b u v l h k e =
        let p = bind_both (passing (any_beyond As) u) (λ _ w. cmp (extend c As) true a b w) tt v e in
        subst (λ V. Equal E V a b) (values_extended E c As ∙ ap (λ m. under m (values c)) l)
        (sound (extend c As) true a b p.1 v (extended_counted c As vs) h k p.3)

    branches_sound : (ps : List Term) (Cs : List Constructor) (bs bs' : Terms) (u v : Account) → binders_of bs ≡ arities Cs → binders_of bs' ≡ arities Cs →
        EachTerm (IsCountedNode E) bs → EachTerm (IsCountedNode E) bs' →
        (run_all (branches_equal cmp c ps Cs (list_of bs) (list_of bs')) u).end ≡ run.Done tt v → EqualTerms E (values c) bs bs'
    branches_sound ps [] Done Done u v n n' h h' e = conversion.done
    branches_sound ps [] (Next m t ts) bs' u v n n' h h' e = no_cons n
    branches_sound ps [] Done (Next m t ts) u v n n' h h' e = no_cons n'
    branches_sound ps (C ∷ Cs) Done bs' u v n n' h h' e = no_cons (sym n)
    branches_sound ps (C ∷ Cs) (Next m t ts) Done u v n n' h h' e = no_cons (sym n')
    branches_sound ps (C ∷ Cs) (Next m t ts) (Next m' t' ts') u v n n' h h' e =
        let r = run_both (λ u. entering c (branch_entries C ps) (λ d. cmp d true t t') u) (branches_equal cmp c ps Cs (list_of ts) (list_of ts')) u v e in
        next_equal (values c) (length C.args) m m' t t' ts ts' (first_same n) (first_same n')
        (entering_sound (branch_entries C ps) (length C.args) t t' u r.0 (entries_at_length _ C.args) h.0 h'.0 r.1)
        (branches_sound ps Cs ts ts' r.0 v (rest_same n) (rest_same n') h.1 h'.1 r.2)

    matches_sound : (f : FamilyId) (F : FamilyDecl) (n : ℕ) (ps qs bs bs' : Terms) (ret ret' s s' : Term) (u v : Account) → IsCounted E (Case f ps n ret s bs) →
        family_of E f ≡ Some F → n ≡ suc (length F.indices) → binders_of bs ≡ arities F.constructors → binders_of bs' ≡ arities F.constructors → AreAll 0 (binders_of ps) →
        AreAll 0 (binders_of qs) → number ps ≡ number qs → AreCounted E (list_of qs) → IsCounted E ret' → IsCounted E s' → EachTerm (IsCountedNode E) bs' →
        (matches_equal cmp c f (family_of E f) ps ret s bs qs ret' s' bs' u).end ≡ run.Done tt v → Equal E (values c) (Case f ps n ret s bs) (Case f qs n ret' s' bs')
    matches_sound f F n ps qs bs bs' ret ret' s s' u v h ef en eb eb' ap' aq el kq kr ks kb e =
        let e1 : (matches_equal cmp c f (Some F) ps ret s bs qs ret' s' bs' u).end ≡ run.Done tt v =
        subst (λ o. (matches_equal cmp c f o ps ret s bs qs ret' s' bs' u).end ≡ run.Done tt v) ef e in
        let k3 : Unit {0} → Account → Run (Unit {0}) = λ _ x. run_all (branches_equal cmp c (list_of ps) F.constructors (list_of bs) (list_of bs')) x in
        let k2 : Unit {0} → Account → Run (Unit {0}) = λ _ w. bind (cmp c true s s' w) k3 in
        let k1 : Unit {0} → Account → Run (Unit {0}) = λ _ v. bind (entering c (predicate_entries f F (list_of ps)) (λ d. cmp d true ret ret') v) k2 in
        let p1 = bind_both (run_all (each_equal cmp c (list_of ps) (list_of qs)) u) k1 tt v e1 in
        let p2 = bind_both (entering c (predicate_entries f F (list_of ps)) (λ d. cmp d true ret ret') p1.1) k2 tt v p1.3 in
        let p3 = bind_both (cmp c true s s' p2.1) k3 tt v p2.3 in
        let long : length (predicate_entries f F (list_of ps)) ≡ n =
        length-append (entries_at _ F.indices) _ ∙ ap (λ m. m + 1) (entries_at_length _ F.indices) ∙ (omega arith) in
        equal_matches E (values c) f n ps qs bs bs' ret ret' s s'
        (all_equal (values c) 0 ps qs ap' aq (each_sound cmp sound c vs (list_of ps) (list_of qs) u p1.1 (list_long ps ∙ el ∙ sym (list_long qs)) (list_counted E ps h.1.0) kq p1.2))
        (entering_sound (predicate_entries f F (list_of ps)) n ret ret' p1.1 p2.1 long h.1.1.0 kr p2.2)
        (sound c true s s' p2.1 p3.1 vs h.1.1.1.0 ks p3.2)
        (branches_sound (list_of ps) F.constructors bs bs' p3.1 v eb eb' h.1.1.1.1.0 kb p3.3)

    case_sound : (f g : FamilyId) (n m : ℕ) (ps qs bs bs' : Terms) (ret ret' s s' : Term) (u v : Account) →
        IsCounted E (Case f ps n ret s bs) → IsCounted E (Case g qs m ret' s' bs') → alike (Case f ps n ret s bs) (Case g qs m ret' s' bs') ≡ true →
        (matches_equal cmp c f (family_of E f) ps ret s bs qs ret' s' bs' u).end ≡ run.Done tt v → Equal E (values c) (Case f ps n ret s bs) (Case g qs m ret' s' bs')
    case_sound f g n m ps qs bs bs' ret ret' s s' u v h k t e =
        let t1 = both_true (same_families f g) _ t in
        let t2 = both_true (number ps == number qs) _ t1.1 in
        let t3 = both_true (n == m) (same_numbers (binders_of bs) (binders_of bs')) t2.1 in
        let names = same_numbers_is (binders_of bs) (binders_of bs') t3.1 in
        let fits = h.0.1 in
        subst (λ x. Equal E (values c) (Case f ps n ret s bs) (Case x qs m ret' s' bs')) (same_families_is f g t1.0)
        (subst (λ x. Equal E (values c) (Case f ps n ret s bs) (Case f qs x ret' s' bs')) (eqb-true n m t3.0)
        (matches_sound f fits.0 n ps qs bs bs' ret ret' s s' u v h fits.1 fits.3 fits.4 (sym names ∙ fits.4) h.0.0.0 k.0.0.0 (eqb-true (number ps) (number qs) t2.0)
        (list_counted E qs k.1.0) k.1.1.0 k.1.1.1.0 k.1.1.1.1.0 e))

    fix_sound : (i j : ℕ) (rargs rargs' : List ℕ) (types bodies types' bodies' : Terms) (u v : Account) →
        IsCounted E (Fix i rargs types bodies) → IsCounted E (Fix j rargs' types' bodies') → alike (Fix i rargs types bodies) (Fix j rargs' types' bodies') ≡ true →
        (fixpoints_equal cmp c types bodies types' bodies' u).end ≡ run.Done tt v → Equal E (values c) (Fix i rargs types bodies) (Fix j rargs' types' bodies')
    fix_sound i j rargs rargs' types bodies types' bodies' u v h k t e =
        let t1 = both_true (i == j) (same_numbers rargs rargs') t in
        let rs : rargs ≡ rargs' = same_numbers_is rargs rargs' t1.1 in
        let n : ℕ = length rargs in
        let a = h.0.0.0 in
        let b = k.0.0.0 in
        let long : length (lifted_types 0 (list_of types)) ≡ n = lifted_long 0 (list_of types) ∙ list_long types ∙ sym (names_long types) ∙ a.0 in
        let D : Context = extend c (lifted_types 0 (list_of types)) in
        let k1 : Unit {0} → Account → Run (Unit {0}) =
        λ _ v. entering c (lifted_types 0 (list_of types)) (λ d. run_all (each_equal cmp d (list_of bodies) (list_of bodies'))) v in
        let p1 = bind_both (run_all (each_equal cmp c (list_of types) (list_of types')) u) k1 tt v e in
        let p2 = bind_both (passing (any_beyond (lifted_types 0 (list_of types))) p1.1) (λ _ w. run_all (each_equal cmp D (list_of bodies) (list_of bodies')) w) tt v p1.3 in
        let types_long : length (list_of types) ≡ length (list_of types') =
        list_long types ∙ sym (names_long types) ∙ a.0 ∙ ap length rs ∙ sym b.0 ∙ names_long types' ∙ sym (list_long types') in
        let bodies_long : length (list_of bodies) ≡ length (list_of bodies') =
        list_long bodies ∙ sym (names_long bodies) ∙ a.2 ∙ ap length rs ∙ sym b.2 ∙ names_long bodies' ∙ sym (list_long bodies') in
        let same_types : EachEqual (values c) (list_of types) (list_of types') =
        each_sound cmp sound c vs (list_of types) (list_of types') u p1.1 types_long (list_counted E types h.1.0) (list_counted E types' k.1.0) p1.2 in
        let same_bodies : EachEqual (under n (values c)) (list_of bodies) (list_of bodies') =
        subst (λ V. EachEqual V (list_of bodies) (list_of bodies')) (values_extended E c (lifted_types 0 (list_of types)) ∙ ap (λ m. under m (values c)) long)
        (each_sound cmp sound D (extended_counted c (lifted_types 0 (list_of types)) vs) (list_of bodies) (list_of bodies') p2.1 v bodies_long
        (list_counted E bodies h.1.1.0) (list_counted E bodies' k.1.1.0) p2.3) in
        subst (λ x. Equal E (values c) (Fix i rargs types bodies) (Fix x rargs' types' bodies')) (eqb-true i j t1.0)
        (subst (λ x. Equal E (values c) (Fix i rargs types bodies) (Fix i x types' bodies')) rs
        (equal_fixpoints E (values c) i rargs types types' bodies bodies' (all_equal (values c) 0 types types' a.1 b.1 same_types)
        (all_equal (values c) n bodies bodies' a.3 (subst (λ x. AreAll (length x) (binders_of bodies')) (sym rs) b.3) same_bodies)))

    heads_sound : (a b : Term) (u v : Account) → IsCounted E a → IsCounted E b → alike a b ≡ true → (heads_equal E cmp c a b u).end ≡ run.Done tt v →
        Equal E (values c) a b
    heads_sound (Rel i) (Rel j) u v h k t e = subst (λ x. Equal E (values c) (Rel i) (Rel x)) (eqb-true i j t) the_same
    heads_sound (Const x) (Const y) u v h k t e = subst (λ z. Equal E (values c) (Const x) (Const z)) (same_names_is x y t) the_same
    heads_sound (Ind f) (Ind g) u v h k t e = subst (λ z. Equal E (values c) (Ind f) (Ind z)) (same_families_is f g t) the_same
    heads_sound (Construct f i) (Construct g j) u v h k t e =
        let t1 = both_true (same_families f g) (i == j) t in
        subst (λ z. Equal E (values c) (Construct f i) (Construct z j)) (same_families_is f g t1.0)
        (subst (λ z. Equal E (values c) (Construct f i) (Construct f z)) (eqb-true i j t1.1) the_same)
    heads_sound (Case f ps n ret s bs) (Case g qs m ret' s' bs') u v h k t e = case_sound f g n m ps qs bs bs' ret ret' s s' u v h k t e
    heads_sound (Fix i rargs types bodies) (Fix j rargs' types' bodies') u v h k t e = fix_sound i j rargs rargs' types bodies types' bodies' u v h k t e
    heads_sound a b u v h k t e = false_true t

    spines_sound : (a b : Term) (u v : Account) → IsCounted E a → IsCounted E b → (spines_equal E cmp c a b u).end ≡ run.Done tt v → Equal E (values c) a b
    spines_sound a b u v h k e =
        let p = tested ((length (args a) == length (args b)) && alike (head a) (head b))
        (bind (heads_equal E cmp c (head a) (head b) u) (λ _ v. run_all (each_equal cmp c (args a) (args b)) v)) (NotBelow (ClashOfTerms a b)) u tt v e in
        let t = both_true (length (args a) == length (args b)) (alike (head a) (head b)) p.0 in
        let p1 = bind_both (heads_equal E cmp c (head a) (head b) u) (λ _ v. run_all (each_equal cmp c (args a) (args b)) v) tt v p.1 in
        subst (λ x. Equal E (values c) x b) (sym (spine_is a)) (subst (λ x. Equal E (values c) (apply (head a) (args a)) x) (sym (spine_is b))
        (apply_equal (values c) (head a) (head b) (args a) (args b)
        (heads_sound (head a) (head b) u p1.1 (head_counted E a h) (head_counted E b k) t.1 p1.2)
        (each_sound cmp sound c vs (args a) (args b) p1.1 v (eqb-true (length (args a)) (length (args b)) t.0) (args_counted E a h) (args_counted E b k) p1.3)))

  module _ (q : Test) (test : IsTest E.levels E.constraints q) (w : HasCountedDeclarations E) where
    pub entails : (s s' : Sort) → sort_below q s s' ≡ true → SortEntails E s s'
    entails Prop s' h = tt
    entails (Of x) Prop h = false_true h
    entails (Of x) (Of y) h = test.yes x y h

    sorts_sound : (equal : Bool) (V : Values) (s s' : Sort) → sorts_stand q equal s s' ≡ true → Compares E equal V (SortT s) (SortT s')
    sorts_sound true V s s' h = let t = both_true (sort_below q s s') (sort_below q s' s) h in sorts (entails s s' t.0) (entails s' s t.1)
    sorts_sound false V s s' h = of_sorts (entails s s' h)

    products_sound : (equal : Bool) (V : Values) (A A' B B' : Term) → Equal E V A A' → Compares E equal (None ∷ V) B B' → Compares E equal V (Prod A B) (Prod A' B')
    products_sound true V A A' B B' p h = equal_products E V A A' B B' p h
    products_sound false V A A' B B' p h = product p h

    pair_sound : (cmp : Comparison) → IsSound cmp → (c : Context) → AreCountedValues E (values c) → (equal : Bool) (a b : Term) (u v : Account) → IsCounted E a →
        IsCounted E b → (pair E q cmp c equal a b u).end ≡ run.Done tt v → Compares E equal (values c) a b
    pair_sound cmp s c vs equal (SortT r) (SortT r') u v h k e =
        sorts_sound equal (values c) r r' (tested (sorts_stand q equal r r') (done tt u) (NotBelow (ClashOfSorts r r')) u tt v e).0
    pair_sound cmp s c vs equal (Prod A B) (Prod A' B') u v h k e =
        let p = bind_both (cmp c true A A' u) (λ _ v. cmp (Assumed A ∷ c) equal B B' v) tt v e in
        products_sound equal (values c) A A' B B' (s c true A A' u p.1 vs h.1.0 k.1.0 p.2) (s (Assumed A ∷ c) equal B B' p.1 v vs h.1.1.0 k.1.1.0 p.3)
    pair_sound cmp s c vs equal (Lambda A b) (Lambda A' b') u v h k e =
        let p = bind_both (cmp c true A A' u) (λ _ v. cmp (Assumed A ∷ c) true b b' v) tt v e in
        weaker equal (values c) (Lambda A b) (Lambda A' b') (equal_lambdas E (values c) A A' b b' (s c true A A' u p.1 vs h.1.0 k.1.0 p.2)
        (s (Assumed A ∷ c) true b b' p.1 v vs h.1.1.0 k.1.1.0 p.3))
    pair_sound cmp s c vs equal a b u v h k e = weaker equal (values c) a b (spines_sound cmp s c vs a b u v h k e)

    entered_sound : (cmp : Comparison) → IsSound cmp → IsSound (entered E q cmp)
    entered_sound cmp s c equal a b u v vs h k e =
        let go : Run (Unit {0}) = bind (whnf E (values c) a u) (λ x v. bind (whnf E (values c) b v) (λ y w. pair E q cmp c equal x y w)) in
        elim (if_done (same a b) (done tt u) go tt v e) [
          | inl p ↦ weaker equal (values c) a b (of_same (values c) a b p.0)
          | inr p ↦
              let p1 = bind_both (whnf E (values c) a u) (λ x v. bind (whnf E (values c) b v) (λ y w. pair E q cmp c equal x y w)) tt v p.1 in
              let p2 = bind_both (whnf E (values c) b p1.1) (λ y z. pair E q cmp c equal p1.0 y z) tt v p1.3 in
              around equal (values c) a b p1.0 p2.0 (whnf_equal (values c) a p1.0 u p1.1 p1.2) (whnf_equal (values c) b p2.0 p1.1 p2.1 p2.2)
              (pair_sound cmp s c vs equal p1.0 p2.0 p2.1 v (whnf_counted w (values c) vs a p1.0 u p1.1 h p1.2) (whnf_counted w (values c) vs b p2.0 p1.1 p2.1 k p2.2) p2.3)
        ]

    pub compare_sound : (n : ℕ) → IsSound (compare E q n)
    unfolding compare
    compare_sound zero c equal a b u v vs h k e = absurd (nested_done (ticking_done u (λ w. too_nested) tt v e))
    compare_sound (suc n) c equal a b u v vs h k e =
        entered_sound (compare E q n) (compare_sound n) c equal a b (ticked u) v vs h k (ticking_done u (λ w. entered E q (compare E q n) c equal a b w) tt v e)
