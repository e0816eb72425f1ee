-- What an inference answers at its start, and what it tells of the term.
use Rattle.std.proofs.Common.{◌≡◌, ℕ, zero, suc, ◌<◌, ◌-◌, ◌+◌, ◌∷◌, Result, Ok, Err, IfOk, Bool, true, false, ◌↔◌, IsTrue, arith}
use Rattle.universe_levels.specs.Consistency.{IsConsistent}
use Rattle.pc_terms.specs.Syntax.{Term, SortT}
use Rattle.pc_terms.specs.Formed.{IsFormed}
use Rattle.universe_levels.specs.declared.sort.Sort.{Sort}
use Rattle.pc_rules.specs.declared.meter.Account.{Account}
use Rattle.pc_rules.specs.declared.meter.Meter.{Meter}
use Rattle.pc_rules.specs.declared.stop.Stop.TheVariants.{Spent, TooDeep}
use Rattle.pc_rules.specs.declared.stop.Halt.{Halt}
use Rattle.pc_rules.specs.declared.stop.Halt.TheVariants.{Stop}
use Rattle.calculus_rules.specs.declared.entry.Entry.TheVariants.{Assumed, Defined}
use Rattle.calculus_rules.specs.Environment.{Env}
use Rattle.calculus_rules.specs.Context.{Context}
use Rattle.calculus_rules.specs.Typing.{Types, guarded}
use Rattle.pc_rules.specs.Entailment.{test_of}
use Rattle.pc_rules.specs.Follows.{Follows}
use Rattle.pc_rules.specs.WellCounted.{IsCounted, IsCountedEnv, IsCountedContext, HasCountedDeclarations}
use Rattle.pc_rules.specs.DirectedRun.{Done, ticked, noted, too_nested}
use Rattle.pc_rules.specs.DirectedComparison.{Test, IsTest, compare}
use Rattle.pc_rules.specs.DirectedTyping.{infer, rule, rule_number, sort_of, check}
use Rattle.pc_rules.proofs.Entailing.{entailed_decides}
use Rattle.pc_rules.proofs.Following.{follows_spent, follows_nested, follows_entered, follows_noted}
use Rattle.rule_laws.specs.Inference.{IsInferred}
use Rattle.rule_laws.proofs.Comparing.{compare_sound}
use Rattle.rule_laws.proofs.SimpleRules.{formed, sort_sound, check_sound}
use Rattle.rule_laws.proofs.Inferring.{infer_sound}
use Rattle.type_infer.specs.Ready.{IsReady}

module _ (E : Env) (q : Test) (c : Context) (t : Term) where
  pub infer_spent : (n : ℕ) (m0 m1 : Meter) → m0.account.left ≡ 0 → m1.account ≡ ticked m0.account → m1.nest ≡ m0.nest → Follows (infer E q n c t m0.account) (Err (Stop Spent)) m0 m1
  unfolding infer
  infer_spent zero m0 m1 z e n = follows_spent (λ v. too_nested) m0 m1 z e n
  infer_spent (suc k) m0 m1 z e n = follows_spent (λ v. rule E (infer E q k) (compare E q k) c t (noted (rule_number t) v)) m0 m1 z e n

  pub infer_nested : (n : ℕ) (m0 m1 m2 : Meter) → n ≡ 0 → 0 < m0.account.left → m1.account ≡ ticked m0.account → m1.nest ≡ m0.nest → m2.account ≡ m1.account → m2.nest ≡ m1.nest → Follows (infer E q n c t m0.account) (Err (Stop TooDeep)) m0 m2
  unfolding infer
  infer_nested zero m0 m1 m2 z h e n e' n' = follows_nested m0 m1 m2 h e n e' n'
  infer_nested (suc k) m0 m1 m2 z h e n e' n' = absurd (omega arith)

  pub infer_entered : (n k : ℕ) (r : Result Term Halt) (m0 m1 m2 m3 m4 m5 : Meter) → n ≡ suc k → 0 < m0.account.left → m1.account ≡ ticked m0.account → m1.nest ≡ m0.nest →
      m2.account ≡ m1.account → m2.nest ≡ m1.nest + 1 → m3.account ≡ noted (rule_number t) m2.account → m3.nest ≡ m2.nest →
      Follows (rule E (infer E q k) (compare E q k) c t m3.account) r m3 m4 → m5.account ≡ m4.account → m5.nest ≡ m4.nest - 1 → Follows (infer E q n c t m0.account) r m0 m5
  unfolding infer
  infer_entered zero k r m0 m1 m2 m3 m4 m5 z h e n e' n' e2 n2 f e3 n3 = absurd (omega arith)
  infer_entered (suc j) k r m0 m1 m2 m3 m4 m5 z h e n e' n' e2 n2 f e3 n3 =
      let p : j ≡ k = omega arith in
      let s = follows_noted (λ v. rule E (infer E q k) (compare E q k) c t v) r (rule_number t) m2 m3 m4 e2 n2 f in
      rw p (follows_entered (λ v. rule E (infer E q k) (compare E q k) c t (noted (rule_number t) v)) r m0 m1 m2 m4 m5 h e n e' n' s e3 n3)

pub ready_from : (E : Env) (c : Context) → IsCountedEnv E → IsCountedContext E c → IsConsistent E.levels E.constraints → IsReady E c
ready_from E c h k l = record { env = h; context = k; consistent = l }

-- what has been inferred is a type
pub decides : (E : Env) (c : Context) → IsReady E c → IsTest E.levels E.constraints (test_of E)
decides E c h = entailed_decides E.levels E.constraints h.consistent h.env.constraints

pub inferred_from : (E : Env) (c : Context) (t : Term) → IsReady E c → IsFormed t → (n : ℕ) (r : Result Term Halt) (m0 m1 : Meter) →
    Follows (infer E (test_of E) n c t m0.account) r m0 m1 → IfOk r (λ T. IsInferred E c t T)
inferred_from E c t h f n (Ok T) m0 m1 p = infer_sound E h.env.declarations (test_of E) (decides E c h) n c t T m0.account m1.account h.context f p.answer
inferred_from E c t h f n (Err x) m0 m1 p = tt

-- longer contexts
pub assumed_ready : (E : Env) (c : Context) (A : Term) → IsReady E c → IsCounted E A → IsReady E (Assumed A ∷ c)
assumed_ready E c A h k = record { env = h.env; context = (k, h.context); consistent = h.consistent }

pub defined_ready : (E : Env) (c : Context) (b B : Term) → IsReady E c → IsCounted E b → IsCounted E B → IsReady E (Defined b B ∷ c)
defined_ready E c b B h k l = record { env = h.env; context = ((k, l), h.context); consistent = h.consistent }

pub sort_from : (E : Env) (c : Context) (t : Term) → IsReady E c → (n : ℕ) (r : Result Sort Halt) (m0 m1 : Meter) →
    Follows (sort_of E (infer E (test_of E) n) c t m0.account) r m0 m1 → IfOk r (λ _. IsCounted E t) → IfOk r (λ s. Types guarded E c t (SortT s))
sort_from E c t h n (Ok s) m0 m1 p k =
    (sort_sound E h.env.declarations (infer E (test_of E) n) (infer_sound E h.env.declarations (test_of E) (decides E c h) n) c t s m0.account m1.account h.context (formed E t k) p.answer).0
sort_from E c t h n (Err x) m0 m1 p k = tt

pub check_from : (E : Env) (c : Context) (t T : Term) → IsReady E c → (n : ℕ) (r : Result (Unit {0}) Halt) (m0 m1 : Meter) →
    Follows (check E (infer E (test_of E) n) (compare E (test_of E) n) c t T m0.account) r m0 m1 → IfOk r (λ _. IsCounted E t) → IfOk r (λ _. IsCounted E T) →
    IfOk r (λ _. Types guarded E c t T)
check_from E c t T h n (Ok x) m0 m1 p k l =
    let q = decides E c h in
    let w = h.env.declarations in
    (check_sound E w (infer E (test_of E) n) (infer_sound E w (test_of E) q n) (compare E (test_of E) n) (compare_sound E (test_of E) q w n) c t T m0.account m1.account h.context
    (formed E t k) (formed E T l) p.answer).0
check_from E c t T h n (Err x) m0 m1 p k l = tt
