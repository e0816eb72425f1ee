-- Steps at the root, without values: each step but that of a variable is one, they are kept by substitution, and a term has one at most.
use Rattle.std.proofs.Common.{◌≡◌, ℕ, [], map, Some, sym, ap, ◌∙◌, subst, arith}
use Rattle.universe_levels.specs.declared.sort.Sort.{Sort}
use Rattle.universe_levels.specs.declared.sort.Sort.TheVariants.{Prop, Of}
use Rattle.pc_terms.specs.Syntax.{Term, Rel, App, Fix, overs, substitute, substitute_terms, put_all, apply}
use Rattle.calculus_rules.specs.Environment.{Env, SortEntails}
use Rattle.calculus_rules.specs.Context.{Values, value_at}
use Rattle.calculus_rules.specs.Instances.{unfolded}
use Rattle.calculus_rules.specs.Step.{Root, beta, zeta, constant, variable, matched, fixpoint}
use Rattle.calculus_rules.specs.Laws.{OneEach}
use Rattle.calculus_rules.specs.Accepted.{IsAccepted}
use Rattle.calculus_rules.specs.WeakHead.{at_root}
use Rattle.calculus_rules.proofs.OneEach.{one_of_each}
use Rattle.calculus_rules.proofs.WeakHead.{weak_determined}
use Rattle.trees.proofs.Put.{each_length, substitute_whole, substitute-put, substitute-put_all_in, substituted_term, term_at-substitute}
use Rattle.typing_laws.proofs.ClosedEnv.{ClosedEnv}
use Rattle.typing_laws.proofs.AcceptedClosed.{accepted_closed}
use Rattle.typing_laws.proofs.Telescopes.{substitute-unfolding}
use Rattle.typing_laws.proofs.Traversal.{substitute_constructor}
use Rattle.calculus_rules.proofs.Spines.{substitute-apply}

-- what the proofs ask of an environment: each name is declared once, and the declarations are closed
pub record Settled (E : Env) : Type 0 where
  pub one_each : OneEach E
  pub closed : ClosedEnv E

pub settled : (E : Env) → IsAccepted E → Settled E
settled E a = record { one_each = one_of_each E a; closed = accepted_closed E a }

-- sorts

pub entails_same : (E : Env) (s : Sort) → SortEntails E s s
entails_same E Prop = tt
entails_same E (Of u) = λ v h. omega arith

pub entails_then : (E : Env) (r s t : Sort) → SortEntails E r s → SortEntails E s t → SortEntails E r t
entails_then E Prop s t p q = tt
entails_then E (Of u) Prop t p q = absurd p
entails_then E (Of u) (Of w) Prop p q = absurd q
entails_then E (Of u) (Of w) (Of x) p q = λ v h. omega (arith, p v h, q v h)

-- a step is one without values, or puts in a variable's value
pub data StepOf (E : Env) (V : Values) : Term → Term → Type 0 where
  contraction : {t u : Term} → Root E [] t u → StepOf E V t u
  value : {i : ℕ} {v : Term} → value_at V i ≡ Some v → StepOf E V (Rel i) v

pub step_of : {E : Env} {V : Values} {t u : Term} → Root E V t u → StepOf E V t u
step_of beta = contraction beta
step_of zeta = contraction zeta
step_of (constant k) = contraction (constant k)
step_of (variable e) = value e
step_of (matched k e l) = contraction (matched k e l)
step_of (fixpoint i rargs types bodies before s l k e q) = contraction (fixpoint i rargs types bodies before s l k e q)

-- and stays one with any values
pub root_anywhere : {E : Env} {t u : Term} (V : Values) → Root E [] t u → Root E V t u
root_anywhere V beta = beta
root_anywhere V zeta = zeta
root_anywhere V (constant k) = constant k
root_anywhere V (variable e) = absurd (cc)
root_anywhere V (matched k e l) = matched k e l
root_anywhere V (fixpoint i rargs types bodies before s l k e q) = fixpoint i rargs types bodies before s l k e q

pub root_is : {E : Env} {V : Values} {t u u' : Term} → u ≡ u' → Root E V t u → Root E V t u'
root_is {E} {V} {t} e r = subst (λ u. Root E V t u) e r

pub root_substituted : {E : Env} → Settled E → {t u : Term} → Root E [] t u → (s : ℕ → Term) → Root E [] (substitute s t) (substitute s u)
root_substituted h (beta {A} {b} {a}) s = root_is (substitute-put a s b) beta
root_substituted h (zeta {b} {B} {t}) s = root_is (substitute-put b s t) zeta
root_substituted h (constant {k} {T} {b} kept) s = root_is (sym (substitute_whole b s (h.closed.bodies k T b kept))) (constant kept)
root_substituted h (variable e) s = absurd (cc)
root_substituted h (matched {bs = bs} {c = c} {body = body} {xs = xs} k e l) s =
    root_is (ap (λ m. substitute (put_all (map (substitute s) xs) Rel) (substitute (overs m s) body)) l ∙ substitute-put_all_in xs s body)
    (matched (substitute_constructor k s) (term_at-substitute bs s c ∙ ap (substituted_term s) e) (l ∙ sym (each_length (substitute s) xs)))
root_substituted h (fixpoint i rargs types bodies {body} {g} {a} before e l k b q) s =
    root_is
    (ap (λ f. App f (substitute s a))
    (ap (λ f. apply f (map (substitute s) before)) (substitute-unfolding rargs types bodies s body) ∙ sym (substitute-apply s (unfolded rargs types bodies body) before)))
    (fixpoint i rargs (substitute_terms s types) (substitute_terms s bodies) (map (substitute s) before) e (each_length (substitute s) before ∙ l)
    (substitute_constructor k s) (term_at-substitute bodies s i ∙ ap (substituted_term s) b)
    (ap (substitute s) q ∙ substitute-apply s (Fix i rargs types bodies) before))

pub root_one : {E : Env} → Settled E → {t u w : Term} → Root E [] t u → Root E [] t w → u ≡ w
root_one h r r' = weak_determined h.one_each (at_root r) (at_root r')
