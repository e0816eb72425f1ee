-- How an evaluation answers.
use Rattle.std.proofs.Common.{◌≡◌, ℕ, ◌+◌, ◌<◌, IsTrue, List, [], ◌∷◌, Result, Ok, Err, refl, sym, ap, ◌∙◌, subst as along, arith}
use Rattle.pc_terms.specs.Syntax.{Term}
use Rattle.pc_terms.specs.declared.term.MakeFault.{MakeFault}
use Rattle.pc_terms.specs.declared.term.MakeFault.TheVariants.{TooDeep as DeepTerm, Memory as NoTerm}
use Rattle.pc_rules.specs.declared.meter.Account.{Account}
use Rattle.pc_rules.specs.declared.meter.Meter.{Meter}
use Rattle.calculus_rules.specs.Environment.{Env}
use Rattle.calculus_rules.specs.Evaluation.{Evaluates}
use Rattle.pc_rules.specs.Follows.{Follows, IsAfter}
use Rattle.pc_rules.specs.Leads.{Leads}
use Rattle.pc_rules.specs.DirectedRun.{Run, End, Done, NoUnit, Leaves, done, no_unit, ticked, ticking, end_then, bind}
use Rattle.pc_rules.specs.DirectedEvaluation.{Evaluated, Value, Stuck, on_value, node, evaluation}
use Rattle.pc_rules.specs.DirectedLaws.{more, Stays}
use Rattle.pc_rules.proofs.EvaluationReached.{reached}
use Rattle.pc_rules.proofs.FairSearch.{steady_evaluation}
use Rattle.pc_rules.proofs.EvaluationRuns.{evaluate_sound}
use Rattle.pc_rules.proofs.Fair.{same_left}
use Rattle.pc_rules.proofs.Following.{leaves_at, ticking-more, ticking-none}
use Rattle.pc_rules.proofs.Meters.{after-refl, after-trans, after-tick}
use Rattle.source_eval.specs.declared.evaluation.EvalStop.TheVariants.{Spent as NoUnits, TooDeep as Deep, Stuck as Without, Memory as NoMemory}
use Rattle.source_eval.specs.declared.frames.Frame.{Frame}
use Rattle.source_eval.specs.declared.found.Found.{Found}
use Rattle.source_eval.specs.declared.machine.Settled.{Settled}
use Rattle.source_eval.specs.declared.machine.Settled.TheVariants.{Enter as Next, Value as Last, Stuck as Never}
use Rattle.source_eval.specs.Waiting.{meeting, within, goes_on, rests, Comes, Settles, Passes}
use Rattle.source_eval.specs.Evaluated.{eval_stop, evaluated, HasNoValue, StuckHasNoValue}
use Rattle.source_eval.proofs.Leading.{leads_trans, leads_within}
use Rattle.pc_rules.proofs.EvaluationNext.{evaluation_next}
use Rattle.pc_rules.proofs.Leading.{leads_start as leads_same}

-- the start
pub leads_start : (E : Env) (t s : Term) (fs : List Frame) (u : Account) → s ≡ t → fs ≡ [] → Leads (evaluation E t u) (within E fs (evaluation E s u))
leads_start E t s fs u e p =
    along (λ l. Leads (evaluation E t u) (within E l (evaluation E s u))) (sym p) (leads_same _ _ (ap (λ x. evaluation E x u) (sym e)))

none_then : (E : Env) (f : Frame) (r : Run Evaluated) → r.end ≡ NoUnit → (bind r (λ e u. on_value e u (λ v w. meeting E f v w))).end ≡ NoUnit
unfolding bind
none_then E f r h = ap (λ x. end_then x (λ e u. (on_value e u (λ v w. meeting E f v w)).end)) h

none_within : (E : Env) (fs : List Frame) (r : Run Evaluated) → r.end ≡ NoUnit → (within E fs r).end ≡ NoUnit
none_within E [] r h = h
none_within E (f ∷ fs) r h = none_then E f (within E fs r) (none_within E fs r h)

pub spent_follows : (d : Run Evaluated) (E : Env) (fs : List Frame) (t : Term) (m0 m1 m2 : Meter) → Leads d (within E fs (evaluation E t m1.account)) → IsAfter m0 m1 →
    m1.account.left ≡ 0 → m2.account ≡ ticked m1.account → m2.nest ≡ m1.nest → Follows d (evaluated (Err NoUnits)) m0 m2
spent_follows d E fs t m0 m1 m2 l a z k n =
    let e = evaluation_next E t m1.account ∙ ticking-none m1.account (λ v. node E (evaluation E) t v) z in
    let p = l.end ∙ none_within E fs (evaluation E t m1.account) (ap (λ (r : Run Evaluated). r.end) e) in
    record {
      answer = (p, rw k (omega arith));
      after = after-trans m0 m1 m2 a (after-tick m1 m2 k n);
      leaves = leaves_at d NoUnit m2.account.left p tt;
    }

-- a term was entered
pub entered : (d : Run Evaluated) (E : Env) (fs : List Frame) (t : Term) (f : Found) (u w : Account) → Leads d (within E fs (evaluation E t u)) → 0 < u.left →
    w ≡ ticked u → Comes E (λ x. node E (evaluation E) t x) f → Leads d (within E fs (goes_on E f w))
entered d E fs t f u w l h k c =
    let e = evaluation_next E t u ∙ ticking-more u (λ v. node E (evaluation E) t v) h ∙ ap (node E (evaluation E) t) (sym k) in
    leads_trans d (within E fs (evaluation E t u)) (within E fs (goes_on E f w)) l
    (leads_within E fs (evaluation E t u) (goes_on E f w)
    (leads_trans (evaluation E t u) (node E (evaluation E) t w) (goes_on E f w) (leads_same _ _ e) (c.leads w)))

-- and what comes of it
pub settled : (d : Run Evaluated) (E : Env) (fs gs : List Frame) (t : Term) (f : Found) (s : Settled) (u w : Account) → Leads d (within E fs (evaluation E t u)) →
    0 < u.left → w ≡ ticked u → Comes E (λ x. node E (evaluation E) t x) f → Settles E (λ x. within E fs (goes_on E f x)) gs s → Leads d (rests E gs s w)
settled d E fs gs t f s u w l h k c p =
    leads_trans d (within E fs (goes_on E f w)) (rests E gs s w) (entered d E fs t f u w l h k c) (p.leads w)

pub after_node : (m0 m1 m2 : Meter) → IsAfter m0 m1 → m2.account ≡ ticked m1.account → m2.nest ≡ m1.nest → IsAfter m0 m2
after_node m0 m1 m2 a k n = after-trans m0 m1 m2 a (after-tick m1 m2 k n)

-- there is no memory, or a limit was passed
pub fault_follows : (d : Run Evaluated) (f : MakeFault) (m0 m1 : Meter) → (f ≡ DeepTerm → IsTrue d.deep) → IsAfter m0 m1 → Leaves d.end m1.account.left →
    Follows d (evaluated (Err (eval_stop f))) m0 m1
fault_follows d DeepTerm m0 m1 h a l = record { answer = h refl; after = a; leaves = l }
fault_follows d NoTerm m0 m1 h a l = record { answer = tt; after = a; leaves = l }

pub memory_follows : (d : Run Evaluated) (f : MakeFault) (m0 m1 : Meter) → f ≡ NoTerm → IsAfter m0 m1 → Leaves d.end m1.account.left →
    Follows d (evaluated (Err (eval_stop f))) m0 m1
memory_follows d f m0 m1 e a l = fault_follows d f m0 m1 (λ h. let z : DeepTerm ≡ NoTerm = sym h ∙ e in absurd (cc)) a l

pub passed : (d : Run Evaluated) (E : Env) (fs : List Frame) (t : Term) (f : Found) (u w : Account) → Leads d (within E fs (evaluation E t u)) → 0 < u.left →
    w ≡ ticked u → Comes E (λ x. node E (evaluation E) t x) f → Passes (λ x. within E fs (goes_on E f x)) → IsTrue d.deep
passed d E fs t f u w l h k c p = (entered d E fs t f u w l h k c).deep (p.deep w)

-- a value, or a term without a rule
pub value_follows : (d : Run Evaluated) (v : Term) (m0 m1 : Meter) → Leads d (done (Value v) m1.account) → IsAfter m0 m1 → Follows d (evaluated (Ok v)) m0 m1
value_follows d v m0 m1 l a =
    record { answer = l.end; after = a; leaves = leaves_at d (Done (Value v) m1.account) m1.account.left l.end (same_left m1.account) }

pub stuck_follows : (d : Run Evaluated) (t : Term) (m0 m1 : Meter) → Leads d (done (Stuck t) m1.account) → IsAfter m0 m1 →
    Follows d (evaluated (Err (Without t))) m0 m1
stuck_follows d t m0 m1 l a =
    record { answer = l.end; after = a; leaves = leaves_at d (Done (Stuck t) m1.account) m1.account.left l.end (same_left m1.account) }

pub value_is : (E : Env) (t v : Term) (u w : Account) → Leads (evaluation E t u) (done (Value v) w) → (n : ℕ) × Evaluates E t v n × (u ≡ more n w)
value_is E t v u w l = evaluate_sound E u.left t v u w l.end

-- a term whose evaluation is stuck has no value: with a unit more for each node of its evaluation it would come to that, and is stuck still
stuck_stays : (n : ℕ) (e e' : End Evaluated) (s v : Term) (u w : Account) → e ≡ Done (Stuck s) w → Stays n e e' → e' ≡ Done (Value v) u → ⊥
stuck_stays n e e' s v u w p h q =
    let k : e' ≡ Done (Stuck s) (more n w) = along (λ x. Stays n x e') p h in
    let z : Done (Value v) u ≡ Done (Stuck s) (more n w) = sym q ∙ k in absurd (cc)

pub stuck_valueless : (E : Env) (t s : Term) (u w : Account) → Leads (evaluation E t u) (done (Stuck s) w) → StuckHasNoValue E t (Err (Without s))
stuck_valueless E t s u w l a v n e =
    stuck_stays n (evaluation E t u).end (evaluation E t (more n u)).end s v u w l.end ((steady_evaluation E t).stays n u)
    (reached E a (u.left + n) t v n e (omega arith) u)

pub fault_not_stuck : (E : Env) (t : Term) (f : MakeFault) → StuckHasNoValue E t (Err (eval_stop f))
fault_not_stuck E t DeepTerm = tt
fault_not_stuck E t NoTerm = tt
