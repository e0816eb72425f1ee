-- Where the directed rules find no weak-head step there is none.
use Rattle.std.proofs.Common.{◌≡◌, ℕ, zero, suc, ◌==◌, if◌then◌else◌, List, ◌++◌, length, Option, Some, None, refl, sym, ap, ◌∙◌, subst, slice_get, option_map}
use Rattle.std.proofs.lemmas.Bool.{eq-eqb}
use Rattle.pc_terms.specs.declared.leaf.FamilyId.{FamilyId}
use Rattle.pc_terms.specs.Syntax.{Term, Terms, Lambda, App, Construct, Fix, apply, head, args, term_at, substitute, put_all, Rel}
use Rattle.calculus_rules.specs.declared.declaration.Kept.TheVariants.{Constant}
use Rattle.pc_rules.specs.declared.meter.Account.{Account}
use Rattle.calculus_rules.specs.Environment.{Env}
use Rattle.calculus_rules.specs.Context.{Values}
use Rattle.calculus_rules.specs.Instances.{unfolded}
use Rattle.calculus_rules.specs.Step.{IsConstructor, is_constructor, Root, beta, zeta, constant, variable, matched, fixpoint}
use Rattle.calculus_rules.specs.WeakHead.{WeakStep, at_root, in_function, in_scrutinee, in_argument, IsWeakNormal, IsWhnf}
use Rattle.pc_rules.specs.DirectedRun.{Run, End, Done, NoUnit, done, ticked}
use Rattle.calculus_rules.specs.Lookups.{if_some, body_of}
use Rattle.pc_rules.specs.DirectedWeakHead.{arguments_at, built_arguments, built, branch_of, case_step, unfold_at, recursive_step, fix_step, app_step, weak_next, after_step, stuck_step, steps, whnf}
use Rattle.calculus_rules.proofs.Spines.{head-apply, args-apply}
use Rattle.pc_rules.proofs.FairReduction.{steps_lead, done_is}
use Rattle.rule_laws.specs.Reduction.{HasNamesOnce}
use Rattle.rule_laws.proofs.Names.{kept_once, family_once}
use Rattle.pc_rules.proofs.EvaluationReached.{arguments_there}
use Rattle.pc_rules.proofs.SameTrees.{one_family}

-- a next term is found
abbrev Found : Option Term → Type 0
Found None = ⊥
Found (Some t) = Unit {0}

found_where : {o o' : Option Term} → o' ≡ o → Found o → Found o'
found_where {o} e h = subst (λ x. Found x) (sym e) h

built_is : {E : Env} → HasNamesOnce E → {f : FamilyId} {c : ℕ} {t : Term} {qs xs : List Term} → IsConstructor E f c t qs xs → built E t ≡ Some (f, c, xs)
built_is {E} o {f} {c} {t} {qs} {xs} (is_constructor {F = F} {C = C} k i p q e) =
    (λ j. built_arguments E ((ap head e ∙ head-apply (Construct f c) (qs ++ xs)) j) ((ap args e ∙ args-apply (Construct f c) (qs ++ xs)) j))
    ∙ ap (λ o. if_some o (λ F. option_map (λ ys. (f, c, ys)) (arguments_at F c (qs ++ xs)))) (family_once E o f F k)
    ∙ ap (λ o. option_map (λ ys. (f, c, ys)) o) (arguments_there F C c qs xs i p q)

branch_is : (bs : Terms) (f : FamilyId) (c m : ℕ) (body : Term) (xs : List Term) → term_at bs c ≡ Some (m, body) → m ≡ length xs →
    Found (branch_of bs f (Some (f, c, xs)))
branch_is bs f c m body xs e l =
    found_where (ap (λ b. if b then if_some (term_at bs c) (λ b. if b.0 == length xs then Some (substitute (put_all xs Rel) b.1) else None) else None) (one_family f))
    (found_where (ap (λ o. if_some o (λ b. if b.0 == length xs then Some (substitute (put_all xs Rel) b.1) else None)) e)
    (found_where (ap (λ b. if b then Some (substitute (put_all xs Rel) body) else None) (eq-eqb m (length xs) l)) tt))

case_found : (E : Env) (f : FamilyId) (ps : Terms) (n : ℕ) (ret s : Term) (bs : Terms) (o : Option Term) → Found (branch_of bs f (built E s)) →
    Found (case_step E f ps n ret s bs o)
case_found E f ps n ret s bs None h = h
case_found E f ps n ret s bs (Some u) h = tt

scrutinee_found : (E : Env) (f : FamilyId) (ps : Terms) (n : ℕ) (ret s : Term) (bs : Terms) (o : Option Term) → Found o → Found (case_step E f ps n ret s bs o)
scrutinee_found E f ps n ret s bs None h = absurd h
scrutinee_found E f ps n ret s bs (Some u) h = tt

function_found : (E : Env) (g a : Term) (o p : Option Term) → Found o → Found (app_step E g a o p)
function_found E (Lambda A b) a o p h = tt
function_found E g a (Some x) p h = tt
function_found E g a None p h = absurd h

unfolding_found : (E : Env) (g a : Term) (o p : Option Term) → Found (fix_step E (head g) (args g) g a p) → Found (app_step E g a o p)
unfolding_found E (Lambda A b) a o p h = tt
unfolding_found E g a (Some x) p h = tt
unfolding_found E g a None p h = h

-- a fixpoint with all its arguments, of which the recursive one steps or unfolds it
fix_found : (E : Env) (i rarg : ℕ) (rargs : List ℕ) (types bodies : Terms) (before : List Term) (g a : Term) (p : Option Term) → g ≡ apply (Fix i rargs types bodies) before →
    slice_get rargs i ≡ Some rarg → length before ≡ rarg → Found (recursive_step E i rargs types bodies before g a p) → Found (fix_step E (head g) (args g) g a p)
fix_found E i rarg rargs types bodies before g a p e r l h =
    found_where (λ j. fix_step E ((ap head e ∙ head-apply (Fix i rargs types bodies) before) j) ((ap args e ∙ args-apply (Fix i rargs types bodies) before) j) g a p)
    (found_where (ap (λ o. if_some o (λ rarg. if length before == rarg then recursive_step E i rargs types bodies before g a p else None)) r)
    (found_where (ap (λ b. if b then recursive_step E i rargs types bodies before g a p else None) (eq-eqb (length before) rarg l)) h))

argument_found : (E : Env) (i : ℕ) (rargs : List ℕ) (types bodies : Terms) (before : List Term) (g a : Term) (p : Option Term) → Found p →
    Found (recursive_step E i rargs types bodies before g a p)
argument_found E i rargs types bodies before g a None h = absurd h
argument_found E i rargs types bodies before g a (Some b) h = tt

unfold_found : {E : Env} → HasNamesOnce E → (i : ℕ) (rargs : List ℕ) (types bodies : Terms) (before : List Term) (g a body : Term) (p : Option Term) {f : FamilyId} {c : ℕ} {qs xs : List Term} →
    IsConstructor E f c a qs xs → term_at bodies i ≡ Some (length rargs, body) → Found (recursive_step E i rargs types bodies before g a p)
unfold_found {E} o i rargs types bodies before g a body (Some b) k e = tt
unfold_found {E} o i rargs types bodies before g a body None k e =
    found_where (ap (λ o. if_some o (λ p. unfold_at i rargs types bodies before a)) (built_is o k))
    (found_where (ap (λ o. if_some o (λ b. if b.0 == length rargs then Some (App (apply (unfolded rargs types bodies b.1) before) a) else None)) e)
    (found_where (ap (λ b. if b then Some (App (apply (unfolded rargs types bodies body) before) a) else None) (eq-eqb (length rargs) (length rargs) refl)) tt))

root_found : {E : Env} → HasNamesOnce E → (V : Values) {t u : Term} → Root E V t u → Found (weak_next E V t)
root_found o V beta = tt
root_found o V zeta = tt
root_found {E} o V (constant {k = k} {T = T} {b = b} h) = found_where (ap body_of (kept_once E o (Constant k T (Some b)) h)) tt
root_found o V (variable e) = found_where e tt
root_found {E} o V (matched {f = f} {ps = ps} {bs = bs} {n = n} {c = c} {m = m} {ret = ret} {s = s} {body = body} {qs = qs} {xs = xs} k e l) =
    case_found E f ps n ret s bs (weak_next E V s) (found_where (ap (λ o. branch_of bs f o) (built_is o k)) (branch_is bs f c m body xs e l))
root_found {E} o V (fixpoint i {rarg = rarg} rargs types bodies {body = body} {g = g} {a = a} before r l k b e) =
    unfolding_found E g a (weak_next E V g) (weak_next E V a)
    (fix_found E i rarg rargs types bodies before g a (weak_next E V a) e r l (unfold_found o i rargs types bodies before g a body (weak_next E V a) k b))

-- for each weak-head step a next term is found
weak_found : {E : Env} → HasNamesOnce E → {V : Values} {t u : Term} → WeakStep E V t u → Found (weak_next E V t)
weak_found o {V} (at_root r) = root_found o V r
weak_found {E} o {V} (in_function {f = f} {a = a} p) = function_found E f a (weak_next E V f) (weak_next E V a) (weak_found o p)
weak_found {E} o {V} (in_scrutinee {f = f} {ps = ps} {bs = bs} {n = n} {ret = ret} {s = s} p) = scrutinee_found E f ps n ret s bs (weak_next E V s) (weak_found o p)
weak_found {E} o {V} (in_argument {g = g} {a = a} i rarg rargs types bodies before e r l p) =
    unfolding_found E g a (weak_next E V g) (weak_next E V a)
    (fix_found E i rarg rargs types bodies before g a (weak_next E V a) e r l (argument_found E i rargs types bodies before g a (weak_next E V a) (weak_found o p)))

pub no_step_is_normal : (E : Env) → HasNamesOnce E → (V : Values) (t : Term) → weak_next E V t ≡ None → IsWeakNormal E V t
no_step_is_normal E o V t e u p = subst (λ x. Found x) e (weak_found o p)

-- the end of a run has no next term
result_of : End Term → Term → Term
result_of (Done a v) o = a
result_of _ o = o

not_done : {w : Term} {v : Account} → NoUnit ≡ Done w v → ⊥
not_done e = cc

stuck_end : (E : Env) (V : Values) (t w : Term) (o : Option Term) (u v : Account) → weak_next E V t ≡ o → (stuck_step o (done t u)).end ≡ Done w v → weak_next E V w ≡ None
stuck_end E V t w None u v e h = subst (λ x. weak_next E V x ≡ None) (done_is h) e
stuck_end E V t w (Some x) u v e h = absurd (not_done h)

after_end : (E : Env) (V : Values) (t w : Term) (o : Option Term) (u v : Account) (go : Term → Run Term) → weak_next E V t ≡ o →
    ((x : Term) → (go x).end ≡ Done w v → weak_next E V w ≡ None) → (after_step o (done t u) go).end ≡ Done w v → weak_next E V w ≡ None
after_end E V t w None u v go e rec h = subst (λ x. weak_next E V x ≡ None) (done_is h) e
after_end E V t w (Some x) u v go e rec h = rec x h

steps_end : (E : Env) (V : Values) (n : ℕ) (t w : Term) (u v : Account) → (steps E V n t u).end ≡ Done w v → weak_next E V w ≡ None
unfolding steps
steps_end E V zero t w u v h = stuck_end E V t w (weak_next E V t) u v refl h
steps_end E V (suc n) t w u v h =
    after_end E V t w (weak_next E V t) u v (λ x. steps E V n x (ticked u)) refl (λ x h'. steps_end E V n x w (ticked u) v h') h

pub directed_whnf : (E : Env) → HasNamesOnce E → (V : Values) (t w : Term) (u v : Account) → (whnf E V t u).end ≡ Done w v → IsWhnf E V t w
directed_whnf E o V t w u v h = (steps_lead E V u.left t w u v h, no_step_is_normal E o V w (steps_end E V u.left t w u v h))
