-- An evaluation has one value and one number of nodes.
use Rattle.std.proofs.Common.{◌≡◌, ℕ, suc, ◌+◌, List, ◌++◌, length, drop, refl, sym, ap, ◌∙◌, subst, arith, slice_get}
use Rattle.pc_terms.specs.declared.leaf.FamilyId.{FamilyId}
use Rattle.pc_terms.specs.Syntax.{Term, Rel, Lambda, App, Ind, Construct, Fix, put, put_all, substitute, apply, term_at, head, args}
use Rattle.calculus_rules.specs.Environment.{Env}
use Rattle.calculus_rules.specs.Instances.{unfolded}
use Rattle.calculus_rules.specs.Step.{IsConstructor, is_constructor}
use Rattle.calculus_rules.specs.Laws.{OneEach}
use Rattle.calculus_rules.specs.Evaluation.{IsValue, TakesMore, family, constructor, fixpoint, Unfolds, unfolds, Evaluates, value, constant, let_in, beta, extend, unfold_fix, enter}
use Rattle.calculus_rules.proofs.Spines.{head-apply, args-apply, drop_past, one_item, constructor_of, body_of, index_of, rargs_of, types_of, bodies_of}

pub one_constructor : {E : Env} → OneEach E → {f : FamilyId} {c d : ℕ} {v : Term} {ps qs xs ys : List Term} →
    IsConstructor E f c v ps xs → IsConstructor E f d v qs ys → (c ≡ d) × (xs ≡ ys)
one_constructor u {f} {c} {d} {v} {ps} {qs} {xs} {ys} (is_constructor {F = F} k i p a e) (is_constructor {F = G} k' i' p' a' e') =
    (ap constructor_of heads, sym (drop_past ps xs) ∙ (λ i. drop (long i) (spines i)) ∙ drop_past qs ys)
  where
    heads : Construct f c ≡ Construct f d
    heads = sym (head-apply (Construct f c) (ps ++ xs)) ∙ ap head (sym e ∙ e') ∙ head-apply (Construct f d) (qs ++ ys)

    spines : ps ++ xs ≡ qs ++ ys
    spines = sym (args-apply (Construct f c) (ps ++ xs)) ∙ ap args (sym e ∙ e') ∙ args-apply (Construct f d) (qs ++ ys)

    long : length ps ≡ length qs
    long = p ∙ ap (λ F. length F.parameters) (u.families f F G k k') ∙ sym p'

pub not_more : {E : Env} {A b : Term} → TakesMore E (Lambda A b) → ⊥
not_more (family f xs e) = let h = ap head e ∙ head-apply (Ind f) xs in cc
not_more (constructor f c xs k i l e) = let h = ap head e ∙ head-apply (Construct f c) xs in cc
not_more (fixpoint i rargs types bodies xs r l e) = let h = ap head e ∙ head-apply (Fix i rargs types bodies) xs in cc

pub not_unfolds : {A b v u : Term} → Unfolds (Lambda A b) v u → ⊥
not_unfolds (unfolds i rargs types bodies xs r l b e) = let h = ap head e ∙ head-apply (Fix i rargs types bodies) xs in cc

more_or_unfolds : {E : Env} {g v u : Term} → TakesMore E g → Unfolds g v u → ⊥
more_or_unfolds (family f xs e) (unfolds i rargs types bodies ys r l b e') =
    let h = sym (head-apply (Ind f) xs) ∙ ap head (sym e ∙ e') ∙ head-apply (Fix i rargs types bodies) ys in cc
more_or_unfolds (constructor f c xs k j m e) (unfolds i rargs types bodies ys r l b e') =
    let h = sym (head-apply (Construct f c) xs) ∙ ap head (sym e ∙ e') ∙ head-apply (Fix i rargs types bodies) ys in cc
more_or_unfolds (fixpoint i rargs types bodies xs r l e) (unfolds i' rargs' types' bodies' ys r' l' b e') =
    let h = sym (head-apply (Fix i rargs types bodies) xs) ∙ ap head (sym e ∙ e') ∙ head-apply (Fix i' rargs' types' bodies') ys in
    let spines = sym (args-apply (Fix i rargs types bodies) xs) ∙ ap args (sym e ∙ e') ∙ args-apply (Fix i' rargs' types' bodies') ys in
    let longs = ap length spines in
    let rarg = one_item (sym r ∙ (λ j. slice_get (rargs_of (h j)) (index_of (h j))) ∙ r') in
    omega arith

one_unfolding : {g v u w : Term} → Unfolds g v u → Unfolds g v w → u ≡ w
one_unfolding {v = v} (unfolds i rargs types bodies xs {body = b₁} r l b e) (unfolds i' rargs' types' bodies' ys {body = b₂} r' l' b' e') =
    let h = sym (head-apply (Fix i rargs types bodies) xs) ∙ ap head (sym e ∙ e') ∙ head-apply (Fix i' rargs' types' bodies') ys in
    let spines = sym (args-apply (Fix i rargs types bodies) xs) ∙ ap args (sym e ∙ e') ∙ args-apply (Fix i' rargs' types' bodies') ys in
    let body = one_item (sym b ∙ (λ j. term_at (bodies_of (h j)) (index_of (h j))) ∙ b') in
    λ j. App (apply (unfolded (rargs_of (h j)) (types_of (h j)) (bodies_of (h j)) ((body j).1)) (spines j)) v

value_only : {E : Env} {t w : Term} {m : ℕ} → IsValue t → Evaluates E t w m → (t ≡ w) × (1 ≡ m)
value_only i (value j) = (refl, refl)
value_only i (constant k e) = elim i [ ]
value_only i (let_in e e') = elim i [ ]
value_only i (beta e e' e'') = elim i [ ]
value_only i (extend e e' h) = elim i [ ]
value_only i (unfold_fix e e' h e'') = elim i [ ]
value_only i (enter e h b e') = elim i [ ]

pub determined : {E : Env} → OneEach E → {t v w : Term} {n m : ℕ} → Evaluates E t v n → Evaluates E t w m → (v ≡ w) × (n ≡ m)
determined u (value i) e = value_only i e
determined u (constant k e) (value i) = elim i [ ]
determined {E} u (constant {k = name} {T = T} {b = b} k e) (constant {n = m} {T = T'} {b = b'} {v = w} k' e') =
    let r = determined u e (subst (λ b. Evaluates E b w m) (u.bodies name T' T b' b k' k) e') in (r.0, ap suc r.1)
determined u (let_in e f) (value i) = elim i [ ]
determined {E} u (let_in {t = t} e f) (let_in {w = w} {m = m} e' f') =
    let r = determined u e e' in
    let q = determined u f (subst (λ v. Evaluates E (substitute (put v) t) w m) (sym r.0) f') in
    (q.0, λ i. suc (r.1 i + q.1 i))
determined u (beta e f g) (value i) = elim i [ ]
determined {E} u (beta e f g) (beta {w = w} {k = k} e' f' g') =
    let r = determined u e e' in let q = determined u f f' in
    let s = determined u g (subst (λ t. Evaluates E t w k) (λ i. substitute (put (sym q.0 i)) (body_of (sym r.0 i))) g') in
    (s.0, λ i. suc (r.1 i + q.1 i + s.1 i))
determined {E} u (beta e f g) (extend e' f' h) = absurd (not_more (subst (λ g. TakesMore E g) (sym (determined u e e').0) h))
determined u (beta e f g) (unfold_fix {v = v} {u = x} e' f' h g') = absurd (not_unfolds (subst (λ g. Unfolds g v x) (sym (determined u e e').0) h))
determined u (extend e f h) (value i) = elim i [ ]
determined {E} u (extend e f h) (beta e' f' g') = absurd (not_more (subst (λ g. TakesMore E g) (determined u e e').0 h))
determined u (extend e f h) (extend e' f' h') =
    let r = determined u e e' in let q = determined u f f' in
    ((λ i. App (r.0 i) (q.0 i)), λ i. suc (r.1 i + q.1 i))
determined {E} u (extend e f h) (unfold_fix e' f' h' g') = absurd (more_or_unfolds (subst (λ g. TakesMore E g) (determined u e e').0 h) h')
determined u (unfold_fix e f h g) (value i) = elim i [ ]
determined u (unfold_fix {v = v} {u = x} e f h g) (beta e' f' g') = absurd (not_unfolds (subst (λ g. Unfolds g v x) (determined u e e').0 h))
determined {E} u (unfold_fix e f h g) (extend e' f' h') = absurd (more_or_unfolds (subst (λ g. TakesMore E g) (sym (determined u e e').0) h') h)
determined {E} u (unfold_fix {g = fn} {v = v} {u = x} e f h g) (unfold_fix {v = v'} {u = x'} {w = w} {k = k} e' f' h' g') =
    let r = determined u e e' in let q = determined u f f' in
    let same = one_unfolding h (subst (λ v. Unfolds fn v x') (sym q.0) (subst (λ g. Unfolds g v' x') (sym r.0) h')) in
    let s = determined u g (subst (λ t. Evaluates E t w k) (sym same) g') in
    (s.0, λ i. suc (r.1 i + q.1 i + s.1 i))
determined u (enter e h b g) (value i) = elim i [ ]
determined {E} u (enter {f = f} {bs = bs} {qs = qs} {xs = xs} e h b g) (enter {c = d} {m = m} {w = w} {qs = qs'} {xs = ys} e' h' b' g') =
    let r = determined u e e' in
    let one = one_constructor u h (subst (λ v. IsConstructor E f d v qs' ys) (sym r.0) h') in
    let bodies = one_item (sym b ∙ ap (term_at bs) one.0 ∙ b') in
    let s = determined u g (subst (λ t. Evaluates E t w m) (λ i. substitute (put_all (sym one.1 i) Rel) ((sym bodies i).1)) g') in
    (s.0, λ i. suc (r.1 i + s.1 i))
