-- How reduction ends, by the run that it follows.
use Rattle.std.proofs.Common.{◌≡◌, ℕ, zero, suc, ◌+◌, ◌<◌, ◌≤◌, ◌⊎◌, inl, inr, IsTrue, Err, List, Some, refl, ap, ◌∙◌, arith}
use Rattle.trees.specs.Measures.{IsBeyond}
use Rattle.pc_terms.specs.Syntax.{Term}
use Rattle.pc_rules.specs.declared.meter.Meter.{Meter}
use Rattle.pc_rules.specs.declared.stop.Stop.{Stop as StopKind}
use Rattle.pc_rules.specs.declared.stop.Stop.TheVariants.{Spent, TooDeep, Memory}
use Rattle.calculus_rules.specs.Environment.{Env}
use Rattle.calculus_rules.specs.Context.{Values}
use Rattle.pc_rules.specs.DirectedRun.{Run, is_beyond, ticked}
use Rattle.pc_rules.specs.DirectedWeakHead.{weak_next, whnf}
use Rattle.pc_rules.specs.Follows.{Follows, IsAfter, halted}
use Rattle.pc_rules.specs.Leads.{Leads}
use Rattle.pc_rules.proofs.Following.{beyond_is}
use Rattle.pc_rules.proofs.Meters.{after-trans, after-tick}
use Rattle.reduce_machine.specs.declared.steps.Step.{Step}
use Rattle.reduce_machine.specs.Layered.{Layer, plug, AreFrames}
use Rattle.reduce_machine.specs.Steps.{contractum, source, IsStepIn}
use Rattle.reduce_machine.specs.Payment.{HasNoResult}
use Rattle.reduce_machine.specs.Reducts.{after, ticks}
use Rattle.reduce_machine.proofs.Keeping.{after_first, goes_far}
use Rattle.reduce_machine.proofs.Plugging.{plug_beyond, plug_steps}
use Rattle.reduction.proofs.Ending.{whnf_left, ticked_left, spent_follows, GoesOn, goes_on}

-- a step without a result
pub unpaid_follows : (d : Run Term) (E : Env) (V : Values) (t : Term) (fs : List Layer) (r : Step) (s : StopKind) (m0 m1 m2 : Meter) →
    Leads d (whnf E V t m1.account) → (IsTrue (is_beyond t) → IsTrue d.deep) → IsAfter m0 m1 → weak_next E V t ≡ Some (plug fs (contractum r)) → IsStepIn t r →
    AreFrames fs → HasNoResult r m1.account s → m2.account ≡ ticked m1.account → m2.nest ≡ m1.nest → Follows d (halted {A = Term} (Err s)) m0 m2
unpaid_follows d E V t fs r Spent m0 m1 m2 l y a e q f h k n = spent_follows d E V t (plug fs (contractum r)) m0 m1 m2 l e a h k n
unpaid_follows d E V t fs r TooDeep m0 m1 m2 l y a e q f h k n =
    let x = plug fs (contractum r) in
    let g = goes_on d E V t x x m0 m1 m2 l a e refl h.0 k n in
    record { answer = deep h.1 g.beyond; after = g.after; leaves = whnf_left d E V x m2.account g.leads }
  where
    deep : IsBeyond (source r) ⊎ IsBeyond (contractum r) → (IsTrue (is_beyond (plug fs (contractum r))) → IsTrue d.deep) → IsTrue d.deep
    deep (inl b) g = y (beyond_is t (q.part b))
    deep (inr b) g = g (beyond_is (plug fs (contractum r)) (plug_beyond fs (contractum r) f b))
unpaid_follows d E V t fs r Memory m0 m1 m2 l y a e q f h k n =
    record { answer = tt; after = after-trans m0 m1 m2 a (after-tick m1 m2 k n); leaves = rw k (ticked_left d E V t (plug fs (contractum r)) m1.account l e) }

-- units that were taken one after the other
after_ticks : (n : ℕ) (m1 m2 : Meter) → m2.account ≡ ticks n m1.account → m2.nest ≡ m1.nest → IsAfter m1 m2
after_ticks zero m1 m2 k e =
    let q : m2.account ≡ m1.account = k in
    record { nest = e; left = rw q (omega arith); uses = λ i. rw q (omega arith) }
after_ticks (suc n) m1 m2 k e =
    let x : Meter = record { account = ticked m1.account; nest = m1.nest; nested = m1.nested } in
    after-trans m1 x m2 (after-tick m1 x refl refl) (after_ticks n x m2 k e)

-- what is known of a term in its frames, when its units are taken
pub known_goes : (d : Run Term) (E : Env) (V : Values) (n : ℕ) (fs : List Layer) (t v : Term) (m0 m1 m2 : Meter) → AreFrames fs → n ≤ m1.account.left →
    after E V n t ≡ Some v → Leads d (whnf E V (plug fs t) m1.account) → (IsTrue (is_beyond (plug fs t)) → IsTrue d.deep) → IsAfter m0 m1 →
    m2.account ≡ ticks n m1.account → m2.nest ≡ m1.nest → GoesOn d E V (plug fs v) m0 m2
known_goes d E V n fs t v m0 m1 m2 f l e h b a k q =
    let g = goes_far d E V n fs t v m1.account f l e h b in
    record { leads = rw k g.leads; beyond = g.beyond; after = after-trans m0 m1 m2 a (after_ticks n m1 m2 k q) }

-- and where there are not so many
spends_by : (d : Run Term) (E : Env) (V : Values) (k n : ℕ) (fs : List Layer) (t v : Term) (m0 m1 m2 : Meter) → AreFrames fs → m1.account.left ≡ k → k < n →
    after E V n t ≡ Some v → Leads d (whnf E V (plug fs t) m1.account) → IsAfter m0 m1 → m2.account ≡ ticks (suc k) m1.account → m2.nest ≡ m1.nest →
    Follows d (halted {A = Term} (Err Spent)) m0 m2
spends_by d E V k zero fs t v m0 m1 m2 f z l e h a p q = absurd (omega (arith, l))
spends_by d E V zero (suc n) fs t v m0 m1 m2 f z l e h a p q =
    let s = after_first E V n t v e in
    spent_follows d E V (plug fs t) (plug fs s.next) m0 m1 m2 h (plug_steps E V fs t s.next f s.step) a z p q
spends_by d E V (suc k) (suc n) fs t v m0 m1 m2 f z l e h a p q =
    let s = after_first E V n t v e in
    let x : Meter = record { account = ticked m1.account; nest = m1.nest; nested = m1.nested } in
    let w : x.account.left ≡ k = omega (arith, z) in
    let g = goes_on d E V (plug fs t) (plug fs s.next) (plug fs s.next) m0 m1 x h a (plug_steps E V fs t s.next f s.step) refl (omega (arith, z)) refl refl in
    spends_by d E V k n fs s.next v m0 x m2 f w (omega (arith, l)) s.rest g.leads g.after p q

pub known_spends : (d : Run Term) (E : Env) (V : Values) (n : ℕ) (fs : List Layer) (t v : Term) (m0 m1 m2 : Meter) → AreFrames fs → m1.account.left < n →
    after E V n t ≡ Some v → Leads d (whnf E V (plug fs t) m1.account) → IsAfter m0 m1 → m2.account ≡ ticks (m1.account.left + 1) m1.account →
    m2.nest ≡ m1.nest → Follows d (halted {A = Term} (Err Spent)) m0 m2
known_spends d E V n fs t v m0 m1 m2 f l e h a p q =
    let z : m1.account.left + 1 ≡ suc m1.account.left = omega arith in
    spends_by d E V m1.account.left n fs t v m0 m1 m2 f refl l e h a (p ∙ ap (λ k. ticks k m1.account) z) q
