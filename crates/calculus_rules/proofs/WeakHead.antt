-- A term has one weak-head step at most, and so one weak-head normal form at most.
use Rattle.std.proofs.Common.{◌≡◌, ℕ, ◌+◌, ◌≤◌, List, [], ◌∷◌, ◌++◌, length, Some, refl, sym, ap, ◌∙◌, subst, arith, length-append, slice_get}
use Rattle.pc_terms.specs.declared.leaf.FamilyId.{FamilyId}
use Rattle.pc_terms.specs.Syntax.{Term, Rel, Terms, Lambda, App, Construct, Case, Fix, put_all, substitute, apply, term_at, head, args}
use Rattle.calculus_rules.specs.Environment.{Env}
use Rattle.calculus_rules.specs.Context.{Values}
use Rattle.calculus_rules.specs.Instances.{unfolded}
use Rattle.calculus_rules.specs.Step.{IsConstructor, is_constructor, Root, beta, zeta, constant, variable, matched, fixpoint, Step, root, inside, in_child, past_child, past_group}
use Rattle.calculus_rules.specs.Conversion.{Equal, same, chain}
use Rattle.calculus_rules.specs.WeakHead.{WeakStep, at_root, in_function, in_scrutinee, in_argument, WeakSteps, no_step, then_step}
use Rattle.calculus_rules.specs.Laws.{OneEach}
use Rattle.calculus_rules.proofs.Spines.{one_item, index_of, rargs_of, types_of, bodies_of, head_is, args_are, place_is}
use Rattle.calculus_rules.proofs.Determined.{one_constructor}
use Rattle.calculus_rules.proofs.Congruence.{step_equal}

construct_not_fix : (f : FamilyId) (c i : ℕ) (rargs : List ℕ) (types bodies : Terms) → Construct f c ≡ Fix i rargs types bodies → ⊥
construct_not_fix f c i rargs types bodies e = cc

lambda_not_fix : (A b : Term) (i : ℕ) (rargs : List ℕ) (types bodies : Terms) → Lambda A b ≡ Fix i rargs types bodies → ⊥
lambda_not_fix A b i rargs types bodies e = cc

-- a constructor has no weak-head step, whatever its arguments
construct_waits : {E : Env} {V : Values} {t u : Term} (f : FamilyId) (c : ℕ) → head t ≡ Construct f c → WeakStep E V t u → ⊥
construct_waits f c h (at_root beta) = cc
construct_waits f c h (at_root zeta) = cc
construct_waits f c h (at_root (constant k)) = cc
construct_waits f c h (at_root (variable e)) = cc
construct_waits f c h (at_root (matched k b l)) = cc
construct_waits f c h (at_root (fixpoint i rargs types bodies before r l k b e)) =
    construct_not_fix f c i rargs types bodies (sym h ∙ head_is (Fix i rargs types bodies) before e)
construct_waits f c h (in_function p) = construct_waits f c h p
construct_waits f c h (in_scrutinee p) = cc
construct_waits f c h (in_argument i rarg rargs types bodies before e r l p) =
    construct_not_fix f c i rargs types bodies (sym h ∙ head_is (Fix i rargs types bodies) before e)

built_waits : {E : Env} {V : Values} {f : FamilyId} {c : ℕ} {t u : Term} {qs xs : List Term} → IsConstructor E f c t qs xs → WeakStep E V t u → ⊥
built_waits {f = f} {c = c} {qs = qs} {xs = xs} (is_constructor k i l m e) p = construct_waits f c (head_is _ (qs ++ xs) e) p

-- a fixpoint with rarg arguments at most has no weak-head step
fix_waits : {E : Env} {V : Values} {g u : Term} (i rarg : ℕ) (rargs : List ℕ) (types bodies : Terms) → head g ≡ Fix i rargs types bodies →
    slice_get rargs i ≡ Some rarg → length (args g) ≤ rarg → WeakStep E V g u → ⊥
fix_waits i rarg rargs types bodies h s m (at_root beta) = cc
fix_waits i rarg rargs types bodies h s m (at_root zeta) = cc
fix_waits i rarg rargs types bodies h s m (at_root (constant k)) = cc
fix_waits i rarg rargs types bodies h s m (at_root (variable e)) = cc
fix_waits i rarg rargs types bodies h s m (at_root (matched k b l)) = cc
fix_waits i rarg rargs types bodies h s m (at_root (fixpoint i' {rarg = q} rargs' types' bodies' {g = g} {a = a} before r l k b e)) =
    let same : rarg ≡ q = place_is rarg q (sym h ∙ head_is (Fix i' rargs' types' bodies') before e) s r in
    let long : length (args g) ≡ length before = ap length (args_are (Fix i' rargs' types' bodies') before e) in
    let more : length (args g ++ (a ∷ [])) ≡ length (args g) + 1 = length-append (args g) (a ∷ []) in
    omega arith
fix_waits i rarg rargs types bodies h s m (in_function {f = f} {a = a} p) =
    let more : length (args f ++ (a ∷ [])) ≡ length (args f) + 1 = length-append (args f) (a ∷ []) in
    fix_waits i rarg rargs types bodies h s (omega arith) p
fix_waits i rarg rargs types bodies h s m (in_scrutinee p) = cc
fix_waits i rarg rargs types bodies h s m (in_argument {g = g} {a = a} i' q rargs' types' bodies' before e r l p) =
    let same : rarg ≡ q = place_is rarg q (sym h ∙ head_is (Fix i' rargs' types' bodies') before e) s r in
    let long : length (args g) ≡ length before = ap length (args_are (Fix i' rargs' types' bodies') before e) in
    let more : length (args g ++ (a ∷ [])) ≡ length (args g) + 1 = length-append (args g) (a ∷ []) in
    omega arith

-- the function of a fixpoint that has all its arguments waits
fix_function : {E : Env} {V : Values} {g u : Term} (i rarg : ℕ) (rargs : List ℕ) (types bodies : Terms) (before : List Term) → g ≡ apply (Fix i rargs types bodies) before →
    slice_get rargs i ≡ Some rarg → length before ≡ rarg → WeakStep E V g u → ⊥
fix_function {g = g} i rarg rargs types bodies before e r l p =
    let long : length (args g) ≡ length before = ap length (args_are (Fix i rargs types bodies) before e) in
    fix_waits i rarg rargs types bodies (head_is (Fix i rargs types bodies) before e) r (omega arith) p

lambda_waits : {E : Env} {V : Values} {A b u : Term} → WeakStep E V (Lambda A b) u → ⊥
lambda_waits (at_root r) = elim r [ ]

root_determined : {E : Env} → OneEach E → {V : Values} {t u w : Term} → Root E V t u → Root E V t w → u ≡ w
root_determined o beta beta = refl
root_determined o beta (fixpoint i rargs types bodies before r l k b e) = absurd (lambda_not_fix _ _ i rargs types bodies (head_is (Fix i rargs types bodies) before e))
root_determined o zeta zeta = refl
root_determined o (constant {k = k} {T = T} {b = b} h) (constant {T = T'} {b = b'} h') = o.bodies k T T' b b' h h'
root_determined o (variable e) (variable e') = one_item (sym e ∙ e')
root_determined o (matched {bs = bs} {c = c} h b l) (matched {c = d} h' b' l') =
    let one = one_constructor o h h' in
    let bodies = one_item (sym b ∙ ap (term_at bs) one.0 ∙ b') in
    λ j. substitute (put_all (one.1 j) Rel) ((bodies j).1)
root_determined o (fixpoint i rargs types bodies before r l k b e) beta = absurd (lambda_not_fix _ _ i rargs types bodies (head_is (Fix i rargs types bodies) before e))
root_determined o (fixpoint i rargs types bodies {a = a} before r l k b e) (fixpoint i' rargs' types' bodies' before' r' l' k' b' e') =
    let h = sym (head_is (Fix i rargs types bodies) before e) ∙ head_is (Fix i' rargs' types' bodies') before' e' in
    let spines : before ≡ before' = sym (args_are (Fix i rargs types bodies) before e) ∙ args_are (Fix i' rargs' types' bodies') before' e' in
    let body = one_item (sym b ∙ (λ j. term_at (bodies_of (h j)) (index_of (h j))) ∙ b') in
    λ j. App (apply (unfolded (rargs_of (h j)) (types_of (h j)) (bodies_of (h j)) ((body j).1)) (spines j)) a

pub weak_determined : {E : Env} → OneEach E → {V : Values} {t u w : Term} → WeakStep E V t u → WeakStep E V t w → u ≡ w
weak_determined o (at_root r) (at_root r') = root_determined o r r'
weak_determined o (at_root beta) (in_function q) = absurd (lambda_waits q)
weak_determined o (at_root (fixpoint i {rarg = rarg} rargs types bodies before r l k b e)) (in_function q) = absurd (fix_function i rarg rargs types bodies before e r l q)
weak_determined o (at_root (matched k b l)) (in_scrutinee q) = absurd (built_waits k q)
weak_determined o (at_root beta) (in_argument i rarg rargs types bodies before e r l q) = absurd (lambda_not_fix _ _ i rargs types bodies (head_is (Fix i rargs types bodies) before e))
weak_determined o (at_root (fixpoint i rargs types bodies before r l k b e)) (in_argument i' rarg' rargs' types' bodies' before' e' r' l' q) = absurd (built_waits k q)
weak_determined o (in_function p) (at_root beta) = absurd (lambda_waits p)
weak_determined o (in_function p) (at_root (fixpoint i {rarg = rarg} rargs types bodies before r l k b e)) = absurd (fix_function i rarg rargs types bodies before e r l p)
weak_determined o (in_function {a = a} p) (in_function q) = ap (λ f. App f a) (weak_determined o p q)
weak_determined o (in_function p) (in_argument i rarg rargs types bodies before e r l q) = absurd (fix_function i rarg rargs types bodies before e r l p)
weak_determined o (in_scrutinee p) (at_root (matched k b l)) = absurd (built_waits k p)
weak_determined o (in_scrutinee {f = f} {ps = ps} {bs = bs} {n = n} {ret = ret} p) (in_scrutinee q) = ap (λ s. Case f ps n ret s bs) (weak_determined o p q)
weak_determined o (in_argument i rarg rargs types bodies before e r l p) (at_root beta) = absurd (lambda_not_fix _ _ i rargs types bodies (head_is (Fix i rargs types bodies) before e))
weak_determined o (in_argument i' rarg' rargs' types' bodies' before' e' r' l' p) (at_root (fixpoint i rargs types bodies before r l k b e)) = absurd (built_waits k p)
weak_determined o (in_argument i rarg rargs types bodies before e r l p) (in_function q) = absurd (fix_function i rarg rargs types bodies before e r l q)
weak_determined o (in_argument {g = g} i rarg rargs types bodies before e r l p) (in_argument i' rarg' rargs' types' bodies' before' e' r' l' q) =
    ap (App g) (weak_determined o p q)

pub whnf_determined : {E : Env} → OneEach E → {V : Values} {t u w : Term} → WeakSteps E V t u → ((x : Term) → WeakStep E V u x → ⊥) →
    WeakSteps E V t w → ((x : Term) → WeakStep E V w x → ⊥) → u ≡ w
whnf_determined o no_step n no_step m = refl
whnf_determined o no_step n (then_step p q) m = absurd (n _ p)
whnf_determined o (then_step p q) n no_step m = absurd (m _ p)
whnf_determined {E} o {V} (then_step p q) n (then_step {w = w} p' q') m =
    whnf_determined o q n (subst (λ x. WeakSteps E V x w) (sym (weak_determined o p p')) q') m

pub weak_step : {E : Env} {V : Values} {t u : Term} → WeakStep E V t u → Step E V t u
weak_step (at_root r) = root r
weak_step (in_function p) = inside (in_child (weak_step p))
weak_step (in_scrutinee p) = inside (past_group (past_child (in_child (weak_step p))))
weak_step (in_argument i rarg rargs types bodies before e r l p) = inside (past_child (in_child (weak_step p)))

pub weak_equal : {E : Env} {V : Values} {t u : Term} → WeakSteps E V t u → Equal E V t u
weak_equal no_step = same
weak_equal (then_step p q) = chain (step_equal (weak_step p)) (weak_equal q)
