-- What a comparison that holds says by conversion.
use Rattle.std.proofs.Common.{◌≡◌, ℕ, Result, Ok, Err, IfOk, Bool, true, false, [], ◌∷◌}
use Rattle.universe_levels.specs.Consistency.{IsConsistent}
use Rattle.pc_terms.specs.Syntax.{Term}
use Rattle.calculus_rules.specs.declared.entry.Entry.TheVariants.{Assumed, Defined}
use Rattle.pc_rules.specs.declared.meter.Account.{Account}
use Rattle.pc_rules.specs.declared.meter.Meter.{Meter}
use Rattle.pc_rules.specs.declared.stop.Halt.{Halt}
use Rattle.calculus_rules.specs.Environment.{Env}
use Rattle.calculus_rules.specs.Context.{Context, values}
use Rattle.calculus_rules.specs.Conversion.{Equal, Below}
use Rattle.pc_rules.specs.Entailment.{test_of}
use Rattle.pc_rules.specs.Follows.{Follows}
use Rattle.pc_rules.specs.WellCounted.{IsCounted, AreCountedValues, IsCountedContext, IsCountedEnv}
use Rattle.pc_rules.specs.DirectedRun.{Done}
use Rattle.pc_rules.specs.DirectedComparison.{compare}
use Rattle.pc_rules.proofs.Entailing.{entailed_decides}
use Rattle.rule_laws.specs.Comparison.{Compares}
use Rattle.rule_laws.proofs.Comparing.{compare_sound}
use Rattle.conversion.specs.Comparable.{AreComparable}

values_counted : (E : Env) (c : Context) → IsCountedContext E c → AreCountedValues E (values c)
values_counted E [] h = tt
values_counted E (Assumed A ∷ c) h = values_counted E c h.1
values_counted E (Defined b B ∷ c) h = (h.0.0, values_counted E c h.1)

module _ (E : Env) (c : Context) (a b : Term) where
  pub asked : IsCountedEnv E → IsCountedContext E c → IsCounted E a → IsCounted E b → AreComparable E (values c) (a ∷ []) (b ∷ [])
  asked w k p q = record { env = w; values = values_counted E c k; left = (p, tt); right = (q, tt) }

  ends_sound : (n : ℕ) (equal : Bool) (u v : Account) → IsConsistent E.levels E.constraints → AreComparable E (values c) (a ∷ []) (b ∷ []) →
      (compare E (test_of E) n c equal a b u).end ≡ Done tt v → Compares E equal (values c) a b
  ends_sound n equal u v k h e =
      compare_sound E (test_of E) (entailed_decides E.levels E.constraints k h.env.constraints) h.env.declarations n c equal a b u v h.values h.left.0 h.right.0 e

  pub below_from : (n : ℕ) (r : Result (Unit {0}) Halt) (m0 m1 : Meter) → IsConsistent E.levels E.constraints → AreComparable E (values c) (a ∷ []) (b ∷ []) →
      Follows (compare E (test_of E) n c false a b m0.account) r m0 m1 → IfOk r (λ _. Below E (values c) a b)
  below_from n (Ok x) m0 m1 k h f = ends_sound n false m0.account m1.account k h f.answer
  below_from n (Err x) m0 m1 k h f = tt

  pub equal_from : (n : ℕ) (r : Result (Unit {0}) Halt) (m0 m1 : Meter) → IsConsistent E.levels E.constraints → AreComparable E (values c) (a ∷ []) (b ∷ []) →
      Follows (compare E (test_of E) n c true a b m0.account) r m0 m1 → IfOk r (λ _. Equal E (values c) a b)
  equal_from n (Ok x) m0 m1 k h f = ends_sound n true m0.account m1.account k h f.answer
  equal_from n (Err x) m0 m1 k h f = tt
