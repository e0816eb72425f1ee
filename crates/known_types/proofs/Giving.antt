-- A run that is known gives what another run with as much room and as many units gives.
use Rattle.std.proofs.Common.{◌≡◌, ◌∙◌, ℕ, ◌≤◌, ◌-◌, sym, ap, subst, length, arith, Ok, Option, Some, None}
use Rattle.pc_terms.specs.Syntax.{Term}
use Rattle.calculus_rules.specs.Environment.{Env}
use Rattle.calculus_rules.specs.Context.{Context}
use Rattle.pc_rules.specs.declared.meter.Account.{Account}
use Rattle.pc_rules.specs.declared.meter.Meter.{Meter}
use Rattle.pc_rules.specs.DirectedRun.{Done}
use Rattle.pc_rules.specs.DirectedTyping.{infer}
use Rattle.pc_rules.specs.Entailment.{test_of}
use Rattle.pc_rules.specs.Follows.{Follows, IsAfter}
use Rattle.pc_rules.proofs.Fair.{same_left}
use Rattle.pc_rules.proofs.Following.{leaves_at}
use Rattle.run_costs.specs.Costs.{differences, AreUnder, spent}
use Rattle.run_costs.specs.Laws.{InferenceIsMeasured}
use Rattle.known_types.specs.Knowing.{IsRun, IsKnown, Gives}
use Rattle.known_types.specs.Sites.{IsWorldOf}
use Rattle.known_types.specs.declared.world.World.{World}
use Rattle.known_types.proofs.Counts.{uses_rise, within_under}

given : InferenceIsMeasured → (E : Env) (c : Context) (k n : ℕ) → k ≤ n → (t T : Term) (u v : Account) → IsRun E c k t T u v → AreUnder v.uses → (m0 m1 : Meter) →
    u.left - v.left ≤ m0.account.left → AreUnder m0.account.uses → length u.uses ≡ length m0.account.uses →
    m1.account ≡ spent (u.left - v.left) (differences v.uses u.uses) m0.account → m1.nest ≡ m0.nest → Follows (infer E (test_of E) n c t m0.account) (Ok T) m0 m1
given law E c k n l t T u v run under m0 m1 enough free counts e nest =
    let d = infer E (test_of E) n c t m0.account in
    let a : d.end ≡ Done T m1.account = law E (test_of E) k n l c t u v m0.account T run under (within_under m0.account.uses free) counts enough ∙ ap (λ a. Done T a) (sym e) in
    record {
      answer = a;
      after = record {
        nest = nest;
        left = rw e (omega arith);
        uses = λ i. rw e (uses_rise (differences v.uses u.uses) m0.account.uses i free);
      };
      leaves = leaves_at d (Done T m1.account) m1.account.left a (same_left m1.account);
    }

pub given_again : InferenceIsMeasured → (v w : World) (k n : ℕ) → k ≤ n → (s t T U : Term) (a b a' b' : Account) → IsKnown v k s T a b → v.env ≡ w.env → v.ctx ≡ w.ctx → s ≡ t → U ≡ T → a' ≡ a → b' ≡ b →
    (m0 m1 : Meter) → a'.left - b'.left ≤ m0.account.left → AreUnder m0.account.uses → length a'.uses ≡ length m0.account.uses →
    m1.account ≡ spent (a'.left - b'.left) (differences b'.uses a'.uses) m0.account → m1.nest ≡ m0.nest →
    (E : Env) (c : Context) → IsWorldOf w E c → Follows (infer E (test_of E) n c t m0.account) (Ok U) m0 m1
given_again law v w k n l s t T U a b a' b' h p q e o x y m0 m1 enough free counts z nest E c i =
    let run : IsRun E c k t U a' b' =
    subst (λ r. IsRun E c k r U a' b') e
    (subst (λ X. IsRun E c k s X a' b') (sym o)
    (subst (λ u. IsRun E c k s T u b') (sym x)
    (subst (λ u. IsRun E c k s T a u) (sym y) (h.run E c (p ∙ i.0, q ∙ i.1))))) in
    let under : AreUnder b'.uses = subst (λ u. AreUnder u.uses) (sym y) h.under in
    given law E c k n l t U a' b' run under m0 m1 enough free counts z nest

pub gives_more : (P Q : Env → Context → Type 0) → ((E : Env) (c : Context) → Q E c → P E c) → (n : ℕ) (t : Term) (r : Option Term) (m0 m1 : Meter) → Gives P n t r m0 m1 → Gives Q n t r m0 m1
gives_more P Q h n t None m0 m1 g = g
gives_more P Q h n t (Some T) m0 m1 g = λ E c q. g E c (h E c q)
