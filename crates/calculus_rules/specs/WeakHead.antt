-- Weak-head reduction: the steps at the head of a term (PCUIC, POPL 2020, section 2.2 and its weak-head reduction strategy).
-- Where each name is declared once, a term has at most one such step, so at most one end: its weak-head normal form.
use Rattle.std.specs.Prelude.{ℕ, ◌≡◌, List, Some, length, slice_get}
use Rattle.pc_terms.specs.declared.leaf.FamilyId.{FamilyId}
use Rattle.pc_terms.specs.Syntax.{Term, Terms, App, Case, Fix, apply}
use Rattle.calculus_rules.specs.Environment.{Env}
use Rattle.calculus_rules.specs.Context.{Values}
use Rattle.calculus_rules.specs.Step.{Root}

-- a step at the root; or in the function of an application, in the scrutinee of a match, or in the recursive argument of a fixpoint
pub data WeakStep (E : Env) (V : Values) : Term → Term → Type 0 where
  at_root : {t u : Term} → Root E V t u → WeakStep E V t u
  in_function : {f g a : Term} → WeakStep E V f g → WeakStep E V (App f a) (App g a)
  in_scrutinee : {f : FamilyId} {ps bs : Terms} {n : ℕ} {ret s u : Term} → WeakStep E V s u → WeakStep E V (Case f ps n ret s bs) (Case f ps n ret u bs)
  in_argument : {g a b : Term} (i rarg : ℕ) (rargs : List ℕ) (types bodies : Terms) (before : List Term) → g ≡ apply (Fix i rargs types bodies) before →
      slice_get rargs i ≡ Some rarg → length before ≡ rarg → WeakStep E V a b → WeakStep E V (App g a) (App g b)

pub data WeakSteps (E : Env) (V : Values) : Term → Term → Type 0 where
  no_step : {t : Term} → WeakSteps E V t t
  then_step : {t u w : Term} → WeakStep E V t u → WeakSteps E V u w → WeakSteps E V t w

-- nothing steps
abbrev pub IsWeakNormal : Env → Values → Term → Type 0
IsWeakNormal E V t = (u : Term) → WeakStep E V t u → ⊥

-- the weak-head normal form of a term
abbrev pub IsWhnf : Env → Values → Term → Term → Type 0
IsWhnf E V t u = WeakSteps E V t u × IsWeakNormal E V u
