-- What the answers of a typer say of the terms that it was asked about.
use Rattle.std.proofs.Common.{ℕ, Result, Ok, Err, IfOk}
use Rattle.universe_levels.specs.declared.sort.Sort.{Sort}
use Rattle.universe_levels.specs.Consistency.{IsConsistent, IsSortOver}
use Rattle.pc_terms.specs.Syntax.{Term}
use Rattle.pc_terms.specs.Formed.{IsFormed}
use Rattle.pc_rules.specs.declared.meter.Meter.{Meter}
use Rattle.pc_rules.specs.declared.stop.Halt.{Halt}
use Rattle.calculus_rules.specs.Environment.{Env}
use Rattle.calculus_rules.specs.Context.{Context}
use Rattle.pc_rules.specs.DirectedComparison.{IsTest, compare}
use Rattle.pc_rules.specs.DirectedTyping.{infer, sort_of, check}
use Rattle.pc_rules.specs.Entailment.{test_of}
use Rattle.pc_rules.specs.Follows.{Follows}
use Rattle.pc_rules.specs.WellCounted.{IsCounted, IsCountedContext, IsCountedEnv}
use Rattle.pc_rules.proofs.Entailing.{entailed_decides}
use Rattle.rule_laws.proofs.Comparing.{compare_sound}
use Rattle.rule_laws.proofs.SimpleRules.{sort_sound, check_sound}
use Rattle.rule_laws.proofs.Inferring.{infer_sound}

-- the test of an environment decides entailment
pub decides : (E : Env) → IsConsistent E.levels E.constraints → IsCountedEnv E → IsTest E.levels E.constraints (test_of E)
decides E k w = entailed_decides E.levels E.constraints k w.constraints

module _ (E : Env) (k : IsConsistent E.levels E.constraints) (w : IsCountedEnv E) (n : ℕ) (c : Context) (kc : IsCountedContext E c) where
  pub sort_counted : (t : Term) (r : Result Sort Halt) (m0 m1 : Meter) → IsFormed t →
      Follows (sort_of E (infer E (test_of E) n) c t m0.account) r m0 m1 → IfOk r (λ _. IsCounted E t)
  sort_counted t (Ok s) m0 m1 f h =
      (sort_sound E w.declarations (infer E (test_of E) n) (infer_sound E w.declarations (test_of E) (decides E k w) n) c t s m0.account m1.account kc f h.answer).1
  sort_counted t (Err e) m0 m1 f h = tt

  pub sort_over : (t : Term) (r : Result Sort Halt) (m0 m1 : Meter) → IsFormed t →
      Follows (sort_of E (infer E (test_of E) n) c t m0.account) r m0 m1 → IfOk r (λ s. IsSortOver E.levels s)
  sort_over t (Ok s) m0 m1 f h =
      (sort_sound E w.declarations (infer E (test_of E) n) (infer_sound E w.declarations (test_of E) (decides E k w) n) c t s m0.account m1.account kc f h.answer).2
  sort_over t (Err e) m0 m1 f h = tt

  pub check_counted : (t T : Term) (r : Result (Unit {0}) Halt) (m0 m1 : Meter) → IsFormed t → IsFormed T →
      Follows (check E (infer E (test_of E) n) (compare E (test_of E) n) c t T m0.account) r m0 m1 → IfOk r (λ _. IsCounted E t)
  check_counted t T (Ok s) m0 m1 f g h =
      (check_sound E w.declarations (infer E (test_of E) n) (infer_sound E w.declarations (test_of E) (decides E k w) n) (compare E (test_of E) n)
      (compare_sound E (test_of E) (decides E k w) w.declarations n) c t T m0.account m1.account kc f g h.answer).1
  check_counted t T (Err e) m0 m1 f g h = tt
