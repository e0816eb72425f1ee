-- Weak-head steps with units, by the next term.
use Rattle.std.proofs.Common.{◌≡◌, ℕ, zero, suc, ◌||◌, Some, None, ap}
use Rattle.pc_terms.specs.Syntax.{Term}
use Rattle.pc_rules.specs.declared.meter.Account.{Account}
use Rattle.calculus_rules.specs.Environment.{Env}
use Rattle.calculus_rules.specs.Context.{Values}
use Rattle.pc_rules.specs.DirectedRun.{done, no_unit, is_beyond, ticked}
use Rattle.pc_rules.specs.DirectedWeakHead.{weak_next, stuck_step, after_step, steps}

module _ (E : Env) (V : Values) where
  pub stays_same : (k : ℕ) (t : Term) (u : Account) → weak_next E V t ≡ None → steps E V k t u ≡ done t u
  unfolding steps
  stays_same zero t u e = ap (λ o. stuck_step o (done t u)) e
  stays_same (suc k) t u e = ap (λ o. after_step o (done t u) (λ next. steps E V k next (ticked u))) e

  pub stuck_same : (t x : Term) (u : Account) → weak_next E V t ≡ Some x → steps E V zero t u ≡ no_unit
  unfolding steps
  stuck_same t x u e = ap (λ o. stuck_step o (done t u)) e

  pub step_same : (k : ℕ) (t x : Term) (u : Account) → weak_next E V t ≡ Some x →
      steps E V (suc k) t u ≡ record { end = (steps E V k x (ticked u)).end; deep = is_beyond x || (steps E V k x (ticked u)).deep }
  unfolding steps
  step_same k t x u e = ap (λ o. after_step o (done t u) (λ next. steps E V k next (ticked u))) e
