-- What directed weak-head reduction ends with has no further step.
use Rattle.std.proofs.Common.{◌≡◌, ◌∙◌, refl, sym, ap, subst, ℕ, zero, suc, Option, Some, None, Ok}
use Rattle.pc_terms.specs.Syntax.{Term}
use Rattle.pc_rules.specs.declared.meter.Account.{Account}
use Rattle.pc_rules.specs.declared.meter.Meter.{Meter}
use Rattle.calculus_rules.specs.Environment.{Env}
use Rattle.calculus_rules.specs.Context.{Values}
use Rattle.pc_rules.specs.DirectedRun.{Done, ticked}
use Rattle.pc_rules.specs.DirectedWeakHead.{weak_next, steps, whnf}
use Rattle.pc_rules.specs.Follows.{Follows}
use Rattle.pc_rules.proofs.WholeSteps.{stays_same, stuck_same, step_same}
use Rattle.rule_laws.proofs.Runs.{done_value, unit_done}

module _ (E : Env) (V : Values) where
  settled_by : (k : ℕ) (t : Term) (u : Account) (o : Option Term) (W : Term) (v : Account) → weak_next E V t ≡ o → (steps E V k t u).end ≡ Done W v →
      weak_next E V W ≡ None
  settled_by k t u None W v e h = subst (λ x. weak_next E V x ≡ None) (done_value (sym (ap (λ d. d.end) (stays_same E V k t u e)) ∙ h)) e
  settled_by zero t u (Some x) W v e h = absurd (unit_done (sym (ap (λ d. d.end) (stuck_same E V t x u e)) ∙ h))
  settled_by (suc k) t u (Some x) W v e h =
      settled_by k x (ticked u) (weak_next E V x) W v refl (sym (ap (λ d. d.end) (step_same E V k t x u e)) ∙ h)

  pub settled : (t W : Term) (m0 m1 : Meter) → Follows (whnf E V t m0.account) (Ok W) m0 m1 → weak_next E V W ≡ None
  settled t W m0 m1 f = settled_by m0.account.left t m0.account (weak_next E V t) W m1.account refl f.answer
