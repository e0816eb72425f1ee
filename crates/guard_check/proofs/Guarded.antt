-- A fixpoint that the guard lets pass is guarded.
use Rattle.std.proofs.Common.{Result, Ok, Err}
use Rattle.std.specs.Prelude.{IfOk}
use Rattle.pc_terms.specs.Syntax.{Term, Rel, SortT, Prod, Lambda, LetIn, App, Const, Ind, Construct, Case, Fix}
use Rattle.pc_rules.specs.declared.meter.Meter.{Meter}
use Rattle.pc_rules.specs.declared.stop.Halt.{Halt}
use Rattle.calculus_rules.specs.Environment.{Env}
use Rattle.calculus_rules.specs.Context.{Context, Values, values}
use Rattle.pc_rules.specs.FixConditions.{HasLambdas, RecursesOnFamilies, guard_rule, IsGuardedFix}
use Rattle.pc_rules.specs.Follows.{Follows}
use Rattle.pc_rules.specs.WellCounted.{IsCounted, IsCountedContext, IsCountedEnv, HasCountedDeclarations, AreCountedValues}
use Rattle.rule_laws.proofs.Guarding.{guard_sound}
use Rattle.rule_laws.proofs.KeepCounts.{values_counted}

module _ (E : Env) (w : HasCountedDeclarations E) (V : Values) (vs : AreCountedValues E V) where
  passed : (t : Term) (m0 m1 : Meter) → IsCounted E t → HasLambdas t → RecursesOnFamilies E V t → Follows (guard_rule E V t m0.account) (Ok tt) m0 m1 → IsGuardedFix E V t
  passed (Fix i rargs types bodies) m0 m1 k l h f = guard_sound E w V vs rargs bodies m0.account m1.account k.1.1.0 l.0 f.answer
  passed (Rel i) m0 m1 k l h f = absurd h
  passed (SortT s) m0 m1 k l h f = absurd h
  passed (Prod A B) m0 m1 k l h f = absurd h
  passed (Lambda A b) m0 m1 k l h f = absurd h
  passed (LetIn b B t) m0 m1 k l h f = absurd h
  passed (App g a) m0 m1 k l h f = absurd h
  passed (Const c) m0 m1 k l h f = absurd h
  passed (Ind g) m0 m1 k l h f = absurd h
  passed (Construct g c) m0 m1 k l h f = absurd h
  passed (Case g ps n ret s bs) m0 m1 k l h f = absurd h

pub is_guarded : (E : Env) (c : Context) (t : Term) (r : Result (Unit {0}) Halt) (m0 m1 : Meter) → IsCountedEnv E → IsCountedContext E c → IsCounted E t → HasLambdas t →
    RecursesOnFamilies E (values c) t → Follows (guard_rule E (values c) t m0.account) r m0 m1 → IfOk r (λ _. IsGuardedFix E (values c) t)
is_guarded E c t (Ok x) m0 m1 w v k l h f = passed E w.declarations (values c) (values_counted E c v) t m0 m1 k l h f
is_guarded E c t (Err x) m0 m1 w v k l h f = tt
