-- What applied constructors, families and fixpoints step to: none is a redex before it has its arguments, so the head and the arguments step.
use Rattle.std.proofs.Common.{◌≡◌, ℕ, suc, ◌+◌, ◌≤◌, List, [], ◌∷◌, ◌++◌, length, Some, refl, sym, ap, ◌∙◌, subst, arith, length-append, slice_get}
use Rattle.pc_terms.specs.declared.leaf.FamilyId.{FamilyId}
use Rattle.pc_terms.specs.Syntax.{Term, Terms, App, Ind, Construct, Fix, SortOf, ProdOf, LambdaOf, LetInOf, AppOf, ConstOf, IndOf, ConstructOf, CaseOf, FixOf, apply, head, args}
use Rattle.calculus_rules.specs.Environment.{Env}
use Rattle.calculus_rules.specs.Step.{IsConstructor, is_constructor, Root, beta, fixpoint}
use Rattle.calculus_rules.proofs.Spines.{index_of, rargs_of, types_of, bodies_of, head_is, args_are, place_is}
use Rattle.term_laws.proofs.Arguments.{spine-whole}
pub use Rattle.pc_terms.proofs.Applied.{apply-append}
use Rattle.equality_laws.proofs.Reducing.{Par, ParTerms, ParEach, rel, sorts, inside, contract, end, and, group, each_none, each_one}

-- a term is its head applied to its arguments
pub spine_is : (t h : Term) (xs : List Term) → head t ≡ h → args t ≡ xs → t ≡ apply h xs
spine_is t h xs e f = sym (spine-whole t) ∙ (λ i. apply (e i) (f i))

-- lists

pub each_append : {E : Env} {ts us vs ws : List Term} → ParEach E ts us → ParEach E vs ws → ParEach E (ts ++ vs) (us ++ ws)
each_append each_none qs = qs
each_append (each_one p ps) qs = each_one p (each_append ps qs)

pub each_number : {E : Env} {ts us : List Term} → ParEach E ts us → length us ≡ length ts
each_number each_none = refl
each_number (each_one p ps) = ap suc (each_number ps)

-- a step of a list in two parts
pub record PartsStep (E : Env) (xs ys us : List Term) : Type 0 where
  pub former : List Term
  pub latter : List Term
  pub is : us ≡ former ++ latter
  pub before : ParEach E xs former
  pub after : ParEach E ys latter

pub parts_step : {E : Env} (xs ys us : List Term) → ParEach E (xs ++ ys) us → PartsStep E xs ys us
parts_step [] ys us ps = record { former = []; latter = us; is = refl; before = each_none; after = ps }
parts_step (x ∷ xs) ys us (each_one {u = u} {us = rest} p ps) =
    let s = parts_step xs ys rest ps in
    record { former = u ∷ s.former; latter = s.latter; is = ap (◌∷◌ u) s.is; before = each_one p s.before; after = s.after }

-- constructors and families stay

abbrev pub Stays : Term → Type 0
Stays (Construct f c) = Unit {0}
Stays (Ind f) = Unit {0}
Stays _ = ⊥

pub record SpineKept (E : Env) (t u : Term) : Type 0 where
  pub at_head : head u ≡ head t
  pub arguments : ParEach E (args t) (args u)

stays_waits : {E : Env} {g a w : Term} → Stays (head g) → Root E [] (App g a) w → ⊥
stays_waits h beta = h
stays_waits h (fixpoint i rargs types bodies before r l k b e) = subst Stays (head_is (Fix i rargs types bodies) before e) h

pub stays : {E : Env} {t u : Term} → Par E t u → Stays (head t) → SpineKept E t u
stays rel h = absurd h
stays (sorts p q) h = absurd h
stays (inside {l = AppOf} (and p (and q end))) h =
    let k = stays p h in
    record { at_head = k.at_head; arguments = each_append k.arguments (each_one q each_none) }
stays (inside {l = ConstructOf f c} end) h = record { at_head = refl; arguments = each_none }
stays (inside {l = IndOf f} end) h = record { at_head = refl; arguments = each_none }
stays (inside {l = SortOf s} p) h = absurd h
stays (inside {l = ProdOf} p) h = absurd h
stays (inside {l = LambdaOf} p) h = absurd h
stays (inside {l = LetInOf} p) h = absurd h
stays (inside {l = ConstOf c} p) h = absurd h
stays (inside {l = CaseOf f n} p) h = absurd h
stays (inside {l = FixOf i rargs} p) h = absurd h
stays (contract {l = AppOf} (and p (and q end)) r) h = let k = stays p h in absurd (stays_waits (subst Stays (sym k.at_head) h) r)
stays (contract {l = ConstructOf f c} p r) h = elim r [ ]
stays (contract {l = IndOf f} p r) h = elim r [ ]
stays (contract {l = SortOf s} p r) h = absurd h
stays (contract {l = ProdOf} p r) h = absurd h
stays (contract {l = LambdaOf} p r) h = absurd h
stays (contract {l = LetInOf} p r) h = absurd h
stays (contract {l = ConstOf c} p r) h = absurd h
stays (contract {l = CaseOf f n} p r) h = absurd h
stays (contract {l = FixOf i rargs} p r) h = absurd h

-- a constructor with all its parameters and arguments
pub record ConstructorKept (E : Env) (f : FamilyId) (c : ℕ) (u : Term) (xs : List Term) : Type 0 where
  pub parameters : List Term
  pub arguments : List Term
  pub is : IsConstructor E f c u parameters arguments
  pub reduced : ParEach E xs arguments

pub constructor_kept : {E : Env} {f : FamilyId} {c : ℕ} {t u : Term} {qs xs : List Term} → IsConstructor E f c t qs xs → Par E t u → ConstructorKept E f c u xs
constructor_kept {E} {f} {c} {t} {u} {qs} {xs} (is_constructor kept at p l e) step =
    let h : head t ≡ Construct f c = head_is (Construct f c) (qs ++ xs) e in
    let k = stays step (subst Stays (sym h) tt) in
    let s = parts_step qs xs (args u) (subst (λ ys. ParEach E ys (args u)) (args_are (Construct f c) (qs ++ xs) e) k.arguments) in
    record {
      parameters = s.former;
      arguments = s.latter;
      is = is_constructor kept at (each_number s.before ∙ p) (each_number s.after ∙ l) (spine_is u (Construct f c) (s.former ++ s.latter) (k.at_head ∙ h) s.is);
      reduced = s.after;
    }

-- a fixpoint waits until it has its recursive argument

abbrev IsFix : Term → Type 0
IsFix (Fix i rargs types bodies) = Unit {0}
IsFix _ = ⊥

pub record FixKept (E : Env) (t u : Term) : Type 0 where
  pub at_head : head u ≡ Fix (index_of (head t)) (rargs_of (head t)) (types_of (head u)) (bodies_of (head u))
  pub types : ParTerms E (types_of (head t)) (types_of (head u))
  pub bodies : ParTerms E (bodies_of (head t)) (bodies_of (head u))
  pub arguments : ParEach E (args t) (args u)

fix_not_redex : {E : Env} {g a w : Term} (rarg : ℕ) → IsFix (head g) → slice_get (rargs_of (head g)) (index_of (head g)) ≡ Some rarg → length (args g) + 1 ≤ rarg →
    Root E [] (App g a) w → ⊥
fix_not_redex rarg h r m beta = h
fix_not_redex {g = g} rarg h r m (fixpoint i {rarg = q} rargs types bodies before s l k b e) =
    let same : rarg ≡ q = place_is rarg q (head_is (Fix i rargs types bodies) before e) r s in
    let long : length (args g) ≡ length before = ap length (args_are (Fix i rargs types bodies) before e) in
    omega arith

pub fix_waits : {E : Env} {t u : Term} (rarg : ℕ) → Par E t u → IsFix (head t) → slice_get (rargs_of (head t)) (index_of (head t)) ≡ Some rarg → length (args t) ≤ rarg → FixKept E t u
fix_waits rarg rel h r m = absurd h
fix_waits rarg (sorts p q) h r m = absurd h
fix_waits rarg (inside {l = AppOf} (and {t = g} p (and {t = a} q end))) h r m =
    let more : length (args g ++ (a ∷ [])) ≡ length (args g) + 1 = length-append (args g) (a ∷ []) in
    let k = fix_waits rarg p h r (omega arith) in
    record { at_head = k.at_head; types = k.types; bodies = k.bodies; arguments = each_append k.arguments (each_one q each_none) }
fix_waits rarg (inside {l = FixOf i rargs} (group p (group q end))) h r m = record { at_head = refl; types = p; bodies = q; arguments = each_none }
fix_waits rarg (inside {l = SortOf s} p) h r m = absurd h
fix_waits rarg (inside {l = ProdOf} p) h r m = absurd h
fix_waits rarg (inside {l = LambdaOf} p) h r m = absurd h
fix_waits rarg (inside {l = LetInOf} p) h r m = absurd h
fix_waits rarg (inside {l = ConstOf c} p) h r m = absurd h
fix_waits rarg (inside {l = IndOf f} p) h r m = absurd h
fix_waits rarg (inside {l = ConstructOf f c} p) h r m = absurd h
fix_waits rarg (inside {l = CaseOf f n} p) h r m = absurd h
fix_waits rarg (contract {l = AppOf} (and {t = g} {u = g'} p (and {t = a} q end)) root) h r m =
    let more : length (args g ++ (a ∷ [])) ≡ length (args g) + 1 = length-append (args g) (a ∷ []) in
    let k = fix_waits rarg p h r (omega arith) in
    let number : length (args g') ≡ length (args g) = each_number k.arguments in
    absurd (fix_not_redex rarg (subst IsFix (sym k.at_head) tt) (ap (λ h. slice_get (rargs_of h) (index_of h)) k.at_head ∙ r) (omega arith) root)
fix_waits rarg (contract {l = FixOf i rargs} p root) h r m = elim root [ ]
fix_waits rarg (contract {l = SortOf s} p root) h r m = absurd h
fix_waits rarg (contract {l = ProdOf} p root) h r m = absurd h
fix_waits rarg (contract {l = LambdaOf} p root) h r m = absurd h
fix_waits rarg (contract {l = LetInOf} p root) h r m = absurd h
fix_waits rarg (contract {l = ConstOf c} p root) h r m = absurd h
fix_waits rarg (contract {l = IndOf f} p root) h r m = absurd h
fix_waits rarg (contract {l = ConstructOf f c} p root) h r m = absurd h
fix_waits rarg (contract {l = CaseOf f n} p root) h r m = absurd h

-- the function of a fixpoint that has all its arguments but the recursive one
pub record FunctionKept (E : Env) (i : ℕ) (rargs : List ℕ) (types bodies : Terms) (before : List Term) (u : Term) : Type 0 where
  pub types' : Terms
  pub bodies' : Terms
  pub before' : List Term
  pub is : u ≡ apply (Fix i rargs types' bodies') before'
  pub of_types : ParTerms E types types'
  pub of_bodies : ParTerms E bodies bodies'
  pub arguments : ParEach E before before'

pub function_kept : {E : Env} {t u : Term} (i rarg : ℕ) (rargs : List ℕ) (types bodies : Terms) (before : List Term) → t ≡ apply (Fix i rargs types bodies) before →
    slice_get rargs i ≡ Some rarg → length before ≡ rarg → Par E t u → FunctionKept E i rargs types bodies before u
function_kept {E} {t} {u} i rarg rargs types bodies before e r l step =
    let h : head t ≡ Fix i rargs types bodies = head_is (Fix i rargs types bodies) before e in
    let a : args t ≡ before = args_are (Fix i rargs types bodies) before e in
    let long : length (args t) ≡ length before = ap length a in
    let k = fix_waits rarg step (subst IsFix (sym h) tt) (ap (λ h. slice_get (rargs_of h) (index_of h)) h ∙ r) (omega arith) in
    let same : head u ≡ Fix i rargs (types_of (head u)) (bodies_of (head u)) =
    k.at_head ∙ ap (λ h. Fix (index_of h) (rargs_of h) (types_of (head u)) (bodies_of (head u))) h in
    record {
      types' = types_of (head u);
      bodies' = bodies_of (head u);
      before' = args u;
      is = spine_is u (Fix i rargs (types_of (head u)) (bodies_of (head u))) (args u) same refl;
      of_types = subst (λ h. ParTerms E (types_of h) (types_of (head u))) h k.types;
      of_bodies = subst (λ h. ParTerms E (bodies_of h) (bodies_of (head u))) h k.bodies;
      arguments = subst (λ xs. ParEach E xs (args u)) a k.arguments;
    }
