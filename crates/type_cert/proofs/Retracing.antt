-- How answers go along walks that are made one after the other.
use Rattle.std.proofs.Common.{◌≡◌, ◌∙◌, sym, ap, refl, subst, ℕ, zero, suc, ◌<◌, ◌+◌, ◌-◌, ◌||◌, Result, Ok, Err, IsTrue, Bool, true, false, if◌then◌else◌, IsErrAnd, IfOk, arith}
use Rattle.std.proofs.lemmas.Result.{err_from_is_err_and}
use Rattle.pc_rules.specs.declared.meter.Account.{Account}
use Rattle.pc_rules.specs.declared.stop.Stop.TheVariants.{Spent, TooDeep, Memory}
use Rattle.pc_rules.specs.declared.stop.Halt.{Halt}
use Rattle.pc_rules.specs.declared.stop.Halt.TheVariants as halts
use Rattle.trees.specs.Measures.{IsBeyond}
use Rattle.pc_terms.specs.Syntax.{Term}
use Rattle.pc_terms.specs.declared.term.MakeFault.{MakeFault}
use Rattle.pc_terms.specs.declared.term.MakeFault.TheVariants.{TooDeep as DeepTerm, Memory as NoTerm}
use Rattle.pc_rules.specs.Stops.{stop_of}
use Rattle.pc_rules.specs.DirectedRun.{Run, make, passing, ticked}
use Rattle.pc_rules.specs.Follows.{Follows, Answers, Halts, IsAfter}
use Rattle.pc_rules.proofs.Following.{follows_made, follows_fault, follows_passing, or_left, or_right}
use Rattle.pc_rules.proofs.Meters.{after-refl, after-trans, after-tick}
use Rattle.cert_rules.specs.Walk.{WalkState, Walk, WalkEnd, Passed, Barred, Unpaid, Crowded, pass, bar, crowded, tick, paid_walk, walk_ticking, end_on, deep_on, walk_on, end_at, by_rules}
use Rattle.cert_rules.specs.WalkSteps.{Reduced}
use Rattle.type_cert.specs.declared.halt.WalkHalt.{WalkHalt}
use Rattle.type_cert.specs.declared.halt.WalkHalt.TheVariants as walks
use Rattle.type_cert.specs.declared.trail.Trail.{Trail}
use Rattle.type_cert.specs.Retraces.{stand, WalkHalts, WalkAnswers, Retraces, halt_at, barred_at, passed_with, at_number}
use Rattle.std.proofs.Math.Bool.{or_assoc, or-false}
use Rattle.cert_rules.proofs.Traces.{on_passed}

-- whether a walk whose first part passes has passed a limit
pub on_deep : {A B : Type 0} (d : Walk A) (k : A → WalkState → Walk B) (a : A) (s : WalkState) → d.end ≡ Passed a s → IsTrue (k a s).deep → IsTrue (walk_on d k).deep
unfolding walk_on
on_deep d k a s e h = or_right d.deep _ (rw e h)

pub answers_more : {A B : Type 0} (d : Walk A) (k : A → WalkState → Walk B) (a : A) (s x : WalkState) (r : Result B WalkHalt) → d.end ≡ Passed a s → WalkAnswers (k a s) r x →
    WalkAnswers (walk_on d k) r x
answers_more d k a s x (Ok b) e h = on_passed d k a s e ∙ h
answers_more d k a s x (Err (walks.Stop Spent)) e h = (on_passed d k a s e ∙ h.0, h.1)
answers_more d k a s x (Err (walks.Stop TooDeep)) e h = on_deep d k a s e h
answers_more d k a s x (Err (walks.Stop Memory)) e h = tt
answers_more d k a s x (Err (walks.Barred i)) e h = on_passed d k a s e ∙ h

pub answers_err : {A B : Type 0} (d : Walk A) (k : A → WalkState → Walk B) (u : Account) (h : WalkHalt) → WalkHalts d h u → WalkHalts (walk_on d k) h u
unfolding walk_on
answers_err d k u (walks.Stop Spent) h = (ap (λ x. end_on x (λ a s. (k a s).end)) h.0, h.1)
answers_err d k u (walks.Stop TooDeep) h = or_left d.deep _ h
answers_err d k u (walks.Stop Memory) h = tt
answers_err d k u (walks.Barred i) h = ap (λ x. end_on x (λ a s. (k a s).end)) h

-- the first part passes, and the rest goes on from there
pub retraces_on : {A B : Type 0} {d : Walk A} {a : A} {r : Result B WalkHalt} {t0 t1 t2 : Trail} (k : A → WalkState → Walk B) → Retraces d (Ok a) t0 t1 → Retraces (k a (stand t1)) r t1 t2 →
    Retraces (walk_on d k) r t0 t2
retraces_on {d = d} {a = a} {r = r} {t0 = t0} {t1 = t1} {t2 = t2} k p q =
    record { answer = answers_more d k a (stand t1) (stand t2) r p.answer q.answer; after = after-trans t0.meter t1.meter t2.meter p.after q.after }

-- the first part is refused or stops
pub retraces_err : {A B : Type 0} {d : Walk A} {h : WalkHalt} {t0 t1 : Trail} (k : A → WalkState → Walk B) → Retraces d (Err h) t0 t1 → Retraces (walk_on d k) (Err h) t0 t1
retraces_err {d = d} {h = h} {t1 = t1} k p = record { answer = answers_err d k t1.meter.account h p.answer; after = p.after }

pub retraces_pass : {A : Type 0} (a : A) (t : Trail) → Retraces (pass a (stand t)) (Ok a) t t
retraces_pass a t = record { answer = refl; after = after-refl t.meter }

pub retraces_bar : {A : Type 0} (i : ℕ) (t : Trail) → Retraces {A = A} (bar i (stand t)) (Err (walks.Barred i)) t t
retraces_bar i t = record { answer = refl; after = after-refl t.meter }

pub retraces_memory : {A : Type 0} (d : Walk A) (t : Trail) → Retraces d (Err (walks.Stop Memory)) t t
retraces_memory d t = record { answer = tt; after = after-refl t.meter }

-- one of two walks
pub retraces_then : {A : Type 0} (b : Bool) (p q : Walk A) (r : Result A WalkHalt) (t0 t1 : Trail) → b ≡ true → Retraces p r t0 t1 → Retraces (if b then p else q) r t0 t1
retraces_then true p q r t0 t1 e f = f
retraces_then false p q r t0 t1 e f = absurd (cc)

pub retraces_else : {A : Type 0} (b : Bool) (p q : Walk A) (r : Result A WalkHalt) (t0 t1 : Trail) → b ≡ false → Retraces q r t0 t1 → Retraces (if b then p else q) r t0 t1
retraces_else true p q r t0 t1 e f = absurd (cc)
retraces_else false p q r t0 t1 e f = f

-- a unit is taken, and the rest goes on
pub paid_more : {A : Type 0} (n : ℕ) (go : Walk A) → 0 < n → paid_walk n go ≡ go
paid_more zero go h = absurd (omega arith)
paid_more (suc n) go h = refl

pub paid_none : {A : Type 0} (n : ℕ) (go : Walk A) → n ≡ 0 → paid_walk n go ≡ record { end = Unpaid; deep = false }
paid_none zero go h = refl
paid_none (suc n) go h = absurd (omega arith)

pub ticking_more : {A : Type 0} (s : WalkState) (go : WalkState → Walk A) → 0 < s.account.left → walk_ticking s go ≡ go (tick s)
unfolding walk_ticking
ticking_more s go h = paid_more s.account.left (go (tick s)) h

pub ticking_none : {A : Type 0} (s : WalkState) (go : WalkState → Walk A) → s.account.left ≡ 0 → walk_ticking s go ≡ record { end = Unpaid; deep = false }
unfolding walk_ticking
ticking_none s go h = paid_none s.account.left (go (tick s)) h

pub retraces_spent : {A : Type 0} (go : WalkState → Walk A) (t0 t1 : Trail) → t0.meter.account.left ≡ 0 → t1.meter.account ≡ ticked t0.meter.account → t1.meter.nest ≡ t0.meter.nest →
    Retraces (walk_ticking (stand t0) go) (Err (walks.Stop Spent)) t0 t1
retraces_spent go t0 t1 z e n =
    rw (ticking_none (stand t0) go z) (record { answer = (refl, rw e (omega arith)); after = after-tick t0.meter t1.meter e n })

-- no room for one more rule, after a unit
pub retraces_nested : {A : Type 0} (t0 t1 : Trail) → 0 < t0.meter.account.left → t1.meter.account ≡ ticked t0.meter.account → t1.meter.nest ≡ t0.meter.nest →
    Retraces {A = A} (walk_ticking (stand t0) (λ v. crowded)) (Err (walks.Stop TooDeep)) t0 t1
retraces_nested t0 t1 h e n =
    rw (ticking_more (stand t0) (λ v. crowded) h) (record { answer = refl; after = after-tick t0.meter t1.meter e n })

-- what takes no item is done by calls that follow the directed rules
rules_answer : {A : Type 0} (f : Account → Run A) (s : WalkState) (r : Result A Halt) (u : Account) → Answers (f s.account) r u →
    WalkAnswers (by_rules f s) (barred_at s.at r) (record { account = u; at = s.at })
unfolding by_rules
rules_answer f s (Ok a) u h = ap (λ e. end_at s.at e) h
rules_answer f s (Err (halts.Stop Spent)) u h = (ap (λ e. end_at s.at e) h.0, h.1)
rules_answer f s (Err (halts.Stop TooDeep)) u h = h
rules_answer f s (Err (halts.Stop Memory)) u h = tt
rules_answer f s (Err (halts.Broken b)) u h = ap (λ e. end_at s.at e) h

pub retraces_rules : {A : Type 0} (f : Account → Run A) (r : Result A Halt) (t0 t1 : Trail) → Follows (f t0.meter.account) r t0.meter t1.meter → t1.at ≡ t0.at →
    Retraces (by_rules f (stand t0)) (barred_at t0.at r) t0 t1
retraces_rules f r t0 t1 p e =
    rw e (record { answer = rules_answer f (stand t0) r t1.meter.account p.answer; after = p.after })

-- rules that leave the meter as it is
pub retraces_still : {A : Type 0} (f : Account → Run A) (r : Result A Halt) (t : Trail) → Answers (f t.meter.account) r t.meter.account → Retraces (by_rules f (stand t)) (barred_at t.at r) t t
retraces_still f r t h = record { answer = rules_answer f (stand t) r t.meter.account h; after = after-refl t.meter }

-- what a `?` gives on is the halt of its call
pub retraces_passed : {A : Type 0} {d : Walk A} {r : Result A WalkHalt} {h : WalkHalt} {t0 t1 : Trail} → IsErrAnd r (λ e. e ≡ h) → Retraces d (Err h) t0 t1 → Retraces d r t0 t1
retraces_passed {r = r} e f =
    let p = err_from_is_err_and r e in
    rw (p.1, p.2) f

-- also where only the answer without its result is told of, or with the item of a number
pub retraces_with : {A : Type 0} (r : Result A WalkHalt) {d : Walk (Unit {0})} {h : WalkHalt} {t0 t1 : Trail} → IsErrAnd r (λ e. e ≡ h) → Retraces d (Err h) t0 t1 → Retraces d (passed_with r) t0 t1
retraces_with r e f =
    let p = err_from_is_err_and r e in
    rw (p.1, p.2) f

pub retraces_number : (i : ℕ) (r : Result (ℕ × Term) WalkHalt) {d : Walk Reduced} {h : WalkHalt} {t0 t1 : Trail} → IsErrAnd r (λ e. e ≡ h) → Retraces d (Err h) t0 t1 → Retraces d (at_number i r) t0 t1
retraces_number i r e f =
    let p = err_from_is_err_and r e in
    rw (p.1, p.2) f

-- and it gives nothing else on
pub passed_nothing : {A : Type 0} (P : A → Type 0) (r : Result A WalkHalt) (h : WalkHalt) → IsErrAnd r (λ e. e ≡ h) → IfOk r P
passed_nothing P (Ok a) h e = absurd e
passed_nothing P (Err y) h e = tt

-- a call that takes no unit answers directed rules
pub retraces_answers : {A : Type 0} (f : Account → Run A) (r : Result A Halt) {q : Result A WalkHalt} {t : Trail} → q ≡ barred_at t.at r → Answers (f t.meter.account) r t.meter.account →
    Retraces (by_rules f (stand t)) q t t
retraces_answers f r {t = t} e h = rw e (retraces_still f r t h)

-- and it halts where they do
pub retraces_halts : {A : Type 0} (f : Account → Run A) (h : Halt) {g : WalkHalt} {t : Trail} → g ≡ halt_at t.at h → Halts (f t.meter.account) h t.meter.account →
    Retraces (by_rules f (stand t)) (Err g) t t
retraces_halts f h {t = t} e k = rw e (retraces_still f (Err h) t k)

-- a term is made, or there is a fault
pub retraces_made : (T made : Term) (t : Trail) → made ≡ T → Retraces (by_rules (make T) (stand t)) (Ok made) t t
retraces_made T made t e = retraces_rules (make T) (Ok made) t t (follows_made T made t.meter e) refl

pub retraces_fault : (T : Term) (f : MakeFault) (t : Trail) → (f ≡ DeepTerm → IsBeyond T) → Retraces (by_rules (make T) (stand t)) (Err (walks.Stop (stop_of f))) t t
retraces_fault T f t h = retraces_rules (make T) (Err (halts.Stop (stop_of f))) t t (follows_fault T f t.meter h) refl

-- terms are made, of which some may be beyond the limits
pub retraces_passing : {B : Type 0} (b : Bool) (k : Unit {0} → WalkState → Walk B) {r : Result B WalkHalt} {t0 t1 : Trail} → Retraces (k tt (stand t0)) r t0 t1 →
    Retraces (walk_on (by_rules (passing b) (stand t0)) k) r t0 t1
retraces_passing b k {t0 = t0} p = retraces_on k (retraces_rules (passing b) (Ok tt) t0 t0 (follows_passing b t0.meter) refl) p

deep_passing : (b : Bool) (f : MakeFault) (t : Trail) → (f ≡ DeepTerm → IsTrue b) → Retraces (by_rules (passing b) (stand t)) (Err (walks.Stop (stop_of f))) t t
deep_passing b DeepTerm t h = retraces_still (passing b) (Err (halts.Stop TooDeep)) t (h refl)
deep_passing b NoTerm t h = retraces_memory (by_rules (passing b) (stand t)) t

pub retraces_beyond : {B : Type 0} (b : Bool) (k : Unit {0} → WalkState → Walk B) (f : MakeFault) (t : Trail) → (f ≡ DeepTerm → IsTrue b) →
    Retraces (walk_on (by_rules (passing b) (stand t)) k) (Err (walks.Stop (stop_of f))) t t
retraces_beyond b k f t h = retraces_err k (deep_passing b f t h)

-- a result by an equation
pub retraces_value : {A : Type 0} (a b : A) (t : Trail) → a ≡ b → Retraces (pass b (stand t)) (Ok a) t t
retraces_value a b t e = rw e (retraces_pass b t)

-- a unit is taken, one more rule stands, and the rest goes on
pub nest_after : (m0 m1 m2 m3 : Trail) → m1.meter.nest ≡ m0.meter.nest + 1 → m1.meter.account ≡ m0.meter.account → IsAfter m1.meter m2.meter → m3.meter.account ≡ m2.meter.account →
    m3.meter.nest ≡ m2.meter.nest - 1 → IsAfter m0.meter m3.meter
nest_after m0 m1 m2 m3 n e f e' n' = record {
  nest = (let g = f.nest in omega arith);
  left = rw e' (omega (arith, f.left, ap (λ u. u.left) e));
  uses = λ i. rw e' (let x = f.uses i in rw e at x);
}

pub retraces_entered : {A : Type 0} (go : WalkState → Walk A) (r : Result A WalkHalt) (t0 t1 t2 t3 t4 : Trail) → 0 < t0.meter.account.left →
    t1.meter.account ≡ ticked t0.meter.account → t1.meter.nest ≡ t0.meter.nest → t2.meter.account ≡ t1.meter.account → t2.meter.nest ≡ t1.meter.nest + 1 → t2.at ≡ t0.at →
    Retraces (go (stand t2)) r t2 t3 → t4.meter.account ≡ t3.meter.account → t4.meter.nest ≡ t3.meter.nest - 1 → t4.at ≡ t3.at → Retraces (walk_ticking (stand t0) go) r t0 t4
retraces_entered go r t0 t1 t2 t3 t4 h e n e2 n2 g p e4 n4 g4 =
    let s2 : stand t2 ≡ tick (stand t0) = λ i. record { account = (e2 ∙ e) i; at = g i } in
    let s4 : stand t3 ≡ stand t4 = λ i. record { account = sym e4 i; at = sym g4 i } in
    let w : WalkAnswers (go (stand t2)) r (stand t4) = subst (λ s. WalkAnswers (go (stand t2)) r s) s4 p.answer in
    let w' : WalkAnswers (go (tick (stand t0))) r (stand t4) = subst (λ s. WalkAnswers (go s) r (stand t4)) s2 w in
    rw (ticking_more (stand t0) go h)
    (record { answer = w'; after = after-trans t0.meter t1.meter t4.meter (after-tick t0.meter t1.meter e n) (nest_after t1 t2 t3 t4 n2 e2 p.after e4 n4) })

-- one after the other is the same however they are grouped
module _ {A B C : Type 0} (f : A → WalkState → Walk B) (g : B → WalkState → Walk C) where
  assoc_at : (e : WalkEnd A) (b : Bool) → walk_on (walk_on (record { end = e; deep = b }) f) g ≡ walk_on (record { end = e; deep = b }) (λ a s. walk_on (f a s) g)
  unfolding walk_on
  assoc_at (Passed a s) b = λ i. record { end = (walk_on (f a s) g).end; deep = or_assoc b (f a s).deep (deep_on (f a s).end (λ x v. (g x v).deep)) i }
  assoc_at (Barred j u) b = λ i. record { end = Barred j u; deep = or-false (b || false) i }
  assoc_at Unpaid b = λ i. record { end = Unpaid; deep = or-false (b || false) i }
  assoc_at Crowded b = λ i. record { end = Crowded; deep = or-false (b || false) i }

  pub walk_assoc : (d : Walk A) → walk_on (walk_on d f) g ≡ walk_on d (λ a s. walk_on (f a s) g)
  walk_assoc d = assoc_at d.end d.deep

pub pass_on : {A B : Type 0} (a : A) (s : WalkState) (k : A → WalkState → Walk B) → walk_on (pass a s) k ≡ k a s
unfolding walk_on
pass_on a s k = refl

-- what asks nothing of a result follows what forgets it

module _ {A B : Type 0} (k : WalkState → Walk B) where
  abbrev forgets : Walk A → Walk (Unit {0})
  forgets d = walk_on d (λ _ w. pass tt w)

  forgotten : (d : Walk A) → walk_on (forgets d) (λ _ w. k w) ≡ walk_on d (λ _ w. k w)
  forgotten d = walk_assoc (λ _ w. pass tt w) (λ _ w. k w) d ∙ (λ i. walk_on d (λ _ w. pass_on tt w (λ _ x. k x) i))

  pub retraces_after : (d : Walk A) {r : Result B WalkHalt} {t0 t1 t2 : Trail} → Retraces (forgets d) (Ok tt) t0 t1 → Retraces (k (stand t1)) r t1 t2 → Retraces (walk_on d (λ _ w. k w)) r t0 t2
  retraces_after d {r = r} {t0 = t0} {t2 = t2} p q = subst (λ w. Retraces w r t0 t2) (forgotten d) (retraces_on (λ _ w. k w) p q)

  pub retraces_before : (d : Walk A) {h : WalkHalt} {t0 t1 : Trail} → Retraces (forgets d) (Err h) t0 t1 → Retraces (walk_on d (λ _ w. k w)) (Err h) t0 t1
  retraces_before d {h = h} {t0 = t0} {t1 = t1} p = subst (λ w. Retraces w (Err h) t0 t1) (forgotten d) (retraces_err (λ _ w. k w) p)

-- a call that takes units follows directed rules
pub retraces_follows : {A : Type 0} (f : Account → Run A) (r : Result A Halt) {q : Result A WalkHalt} {t0 t1 : Trail} → q ≡ barred_at t0.at r →
    Follows (f t0.meter.account) r t0.meter t1.meter → t1.at ≡ t0.at → Retraces (by_rules f (stand t0)) q t0 t1
retraces_follows f r {t0 = t0} {t1 = t1} e p n = rw e (retraces_rules f r t0 t1 p n)

-- what is told of an answer holds of what goes on
not_ok : {A : Type 0} {a : A} {h : WalkHalt} → Ok a ≡ Err h → ⊥
not_ok e = cc

abbrev walked : {A : Type 0} → A → Result A WalkHalt
walked a = Ok a

ok_is : {A : Type 0} {a b : A} → walked a ≡ walked b → a ≡ b
ok_is e = cc

pub told_of : {A : Type 0} (P : A → Type 0) (i : ℕ) (r : Result A Halt) (a : A) → Ok a ≡ barred_at i r → IfOk r P → P a
told_of P i (Ok b) a e h = subst P (sym (ok_is e)) h
told_of P i (Err x) a e h = absurd (not_ok e)
