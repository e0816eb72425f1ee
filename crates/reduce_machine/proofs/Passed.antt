-- Runs that begin with a term that may be beyond the limits.
use Rattle.std.proofs.Common.{◌≡◌, ◌∙◌, IsTrue, [], None, refl, sym, ap, subst as along}
use Rattle.trees.specs.Measures.{IsWithin}
use Rattle.pc_terms.specs.Syntax.{Term}
use Rattle.calculus_rules.specs.Environment.{Env}
use Rattle.calculus_rules.specs.Context.{Values}
use Rattle.calculus_rules.specs.WeakHead.{WeakSteps}
use Rattle.pc_rules.specs.declared.meter.Account.{Account}
use Rattle.pc_rules.specs.DirectedRun.{Run, is_beyond}
use Rattle.pc_rules.specs.DirectedWeakHead.{weak_next, whnf}
use Rattle.pc_rules.specs.Leads.{Leads}
use Rattle.pc_rules.proofs.FairReduction.{steps_lead}
use Rattle.pc_rules.proofs.Following.{or_left, or_right}
use Rattle.pc_rules.proofs.SameTrees.{not_true}
use Rattle.reduction.proofs.Beyond.{within_not_true}
use Rattle.reduction.proofs.Running.{stays}
use Rattle.reduce_machine.specs.Passed.{having_passed, reduced}
use Rattle.reduce_machine.specs.Reads.{read}
use Rattle.reduce_machine.specs.declared.bindings.Lazy.{Lazy}
use Rattle.reduce_machine.proofs.Bodies.{plain_read}

-- no limit was passed
pub none_passed : {A : Type 0} (t : Term) (d : Run A) → IsWithin t → having_passed (is_beyond t) d ≡ d
none_passed t d w = ap (λ b. having_passed b d) (not_true (is_beyond t) (within_not_true t w))

-- a term as it is, which is within the limits
pub plain_reduced : (E : Env) (V : Values) (l : Lazy) (s t : Term) (u : Account) → l.term ≡ s → l.env.items ≡ [] → s ≡ t → IsWithin s → reduced E V (read l) u ≡ whnf E V t u
plain_reduced E V l s t u p q e w =
    ap (λ x. reduced E V x u) (plain_read l s p q) ∙ none_passed s (whnf E V s u) w ∙ ap (λ x. whnf E V x u) e

-- the start of a run
pub passed_start : (E : Env) (V : Values) (t w : Term) (u : Account) → w ≡ t → Leads (reduced E V t u) (whnf E V w u)
passed_start E V t w u p =
    along (λ x. Leads (reduced E V t u) (whnf E V x u)) (sym p) (record { end = refl; deep = λ d. or_right (is_beyond t) _ d })

pub passed_beyond : (E : Env) (V : Values) (t w : Term) (u : Account) → w ≡ t → IsTrue (is_beyond w) → IsTrue (reduced E V t u).deep
passed_beyond E V t w u p h = or_left (is_beyond t) _ (along (λ x. IsTrue (is_beyond x)) p h)

-- the end of a run
pub passed_reached : (E : Env) (V : Values) (t0 t w : Term) (u0 u1 : Account) → Leads (reduced E V t0 u0) (whnf E V t u1) → weak_next E V t ≡ None → w ≡ t →
    WeakSteps E V t0 w
passed_reached E V t0 t w u0 u1 l e p = rw p (steps_lead E V u0.left t0 t u0 u1 (stays (reduced E V t0 u0) E V t u1 l e))
