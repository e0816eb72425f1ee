-- How answers follow rules that are done one after the other.
use Rattle.std.proofs.Common.{◌≡◌, ◌∙◌, sym, ap, subst, refl, ℕ, zero, suc, ◌<◌, ◌-◌, ◌+◌, ◌^◌, ◌||◌, inl, inr, nat_lt, Result, Ok, Err, IsErrAnd, IsTrue, Bool, true, false, if◌then◌else◌, List, [], ◌∷◌, None, arith}
use Rattle.std.proofs.lemmas.Bool.{lt-ltb}
use Rattle.std.proofs.lemmas.Result.{err_from_is_err_and}
use Rattle.trees.specs.Measures.{depth, above, depth_limit, IsBeyond}
use Rattle.pc_terms.specs.Syntax.{Term}
use Rattle.pc_terms.specs.declared.term.MakeFault.{MakeFault}
use Rattle.pc_terms.specs.declared.term.MakeFault.TheVariants.{TooDeep as DeepTerm, Memory as NoTerm}
use Rattle.pc_rules.specs.declared.meter.Account.{Account}
use Rattle.pc_rules.specs.declared.meter.Meter.{Meter}
use Rattle.pc_rules.specs.declared.broken.Broken.{Broken}
use Rattle.pc_rules.specs.declared.stop.Stop.{Stop as StopKind}
use Rattle.pc_rules.specs.declared.stop.Stop.TheVariants.{Spent, TooDeep, Memory}
use Rattle.pc_rules.specs.declared.stop.Halt.{Halt}
use Rattle.pc_rules.specs.declared.stop.Halt.TheVariants.{Stop, Broken as Refusal}
use Rattle.pc_rules.specs.Stops.{stop_of}
use Rattle.calculus_rules.specs.Environment.{Env}
use Rattle.calculus_rules.specs.Context.{Values}
use Rattle.pc_rules.specs.DirectedWeakHead.{weak_next, stuck_step, after_step, steps, whnf}
use Rattle.pc_rules.specs.DirectedRun.{Run, End, Done, Refused, NoUnit, Act, ticked, noted, is_beyond, done, refused, no_unit, too_nested, made, passing, make, bind, end_then, paid, ticking, run_all, Leaves}
use Rattle.pc_rules.specs.Follows.{Follows, IsAfter, Answers, Halts}
use Rattle.pc_rules.specs.Leads.{Leads}
use Rattle.pc_rules.proofs.Fair.{leaves_bind, same_left, paid_is}
use Rattle.pc_rules.proofs.Meters.{after-refl, after-trans, after-tick, after-note}

pub or_left : (a b : Bool) → IsTrue a → IsTrue (a || b)
or_left true b h = refl
or_left false b h = absurd (cc)

pub or_right : (a b : Bool) → IsTrue b → IsTrue (a || b)
or_right true b h = refl
or_right false b h = h

-- the end of a run whose first part is done, and whether it has passed a limit
pub bind_end : {A B : Type 0} (d : Run A) (k : A → Account → Run B) (a : A) (u : Account) → d.end ≡ Done a u → (bind d k).end ≡ (k a u).end
unfolding bind
bind_end d k a u e = ap (λ x. end_then x (λ a u. (k a u).end)) e

pub bind_deep : {A B : Type 0} (d : Run A) (k : A → Account → Run B) (a : A) (u : Account) → d.end ≡ Done a u → IsTrue (k a u).deep → IsTrue (bind d k).deep
unfolding bind
bind_deep d k a u e h = or_right d.deep _ (rw e h)

-- a run whose first part has passed a limit has passed it
pub first_deep : {A B : Type 0} (d : Run A) (k : A → Account → Run B) → IsTrue d.deep → IsTrue (bind d k).deep
unfolding bind
first_deep d k h = or_left d.deep _ h

answers_more : {A B : Type 0} (d : Run A) (k : A → Account → Run B) (a : A) (u w : Account) (r : Result B Halt) → d.end ≡ Done a u → Answers (k a u) r w → Answers (bind d k) r w
answers_more d k a u w (Ok b) e h = bind_end d k a u e ∙ h
answers_more d k a u w (Err (Stop Spent)) e h = (bind_end d k a u e ∙ h.0, h.1)
answers_more d k a u w (Err (Stop TooDeep)) e h = bind_deep d k a u e h
answers_more d k a u w (Err (Stop Memory)) e h = tt
answers_more d k a u w (Err (Refusal b)) e h = bind_end d k a u e ∙ h

-- the first part halts
pub answers_err : {A B : Type 0} (d : Run A) (k : A → Account → Run B) (w : Account) (h : Halt) → Halts d h w → Halts (bind d k) h w
unfolding bind
answers_err d k w (Stop Spent) h = (ap (λ x. end_then x (λ a u. (k a u).end)) h.0, h.1)
answers_err d k w (Stop TooDeep) h = or_left d.deep _ h
answers_err d k w (Stop Memory) h = tt
answers_err d k w (Refusal b) h = ap (λ x. end_then x (λ a u. (k a u).end)) h

-- an end that is told leaves what is left
pub leaves_at : {A : Type 0} (d : Run A) (e : End A) (n : ℕ) → d.end ≡ e → Leaves e n → Leaves d.end n
leaves_at d e n q h = subst (λ x. Leaves x n) (sym q) h

-- a run that has come to another one leaves what that leaves
pub leads_leave : {A : Type 0} (whole rest : Run A) (n : ℕ) → Leads whole rest → Leaves rest.end n → Leaves whole.end n
leads_leave whole rest n l h = leaves_at whole rest.end n l.end h

-- where no limit was passed and memory wasn't wanted, the answer says what is left
pub leaves_answer : {A : Type 0} (d : Run A) (r : Result A Halt) (u : Account) → Answers d r u → (r ≡ Err (Stop TooDeep) → Leaves d.end u.left) →
    (r ≡ Err (Stop Memory) → Leaves d.end u.left) → Leaves d.end u.left
leaves_answer d (Ok a) u h deep memory = leaves_at d (Done a u) u.left h (same_left u)
leaves_answer d (Err (Stop Spent)) u h deep memory = leaves_at d NoUnit u.left h.0 tt
leaves_answer d (Err (Stop TooDeep)) u h deep memory = deep refl
leaves_answer d (Err (Stop Memory)) u h deep memory = memory refl
leaves_answer d (Err (Refusal b)) u h deep memory = leaves_at d (Refused b u) u.left h (same_left u)

-- the first part answered, and the rest follows from there
pub follows_bind : {A B : Type 0} (d : Run A) (k : A → Account → Run B) (a : A) (r : Result B Halt) (m0 m1 m2 : Meter) → Follows d (Ok a) m0 m1 → Follows (k a m1.account) r m1 m2 → Follows (bind d k) r m0 m2
follows_bind d k a r m0 m1 m2 p q =
    record {
      answer = answers_more d k a m1.account m2.account r p.answer q.answer;
      after = after-trans m0 m1 m2 p.after q.after;
      leaves = leaves_at (bind d k) (k a m1.account).end m2.account.left (bind_end d k a m1.account p.answer) q.leaves;
    }

-- the first part is refused or stops, and what would come then never goes back on units
pub follows_err : {A B : Type 0} (d : Run A) (k : A → Account → Run B) (h : Halt) (m0 m1 : Meter) → Follows d (Err h) m0 m1 →
    ((a : A) (u : Account) → Leaves (k a u).end u.left) → Follows (bind d k) (Err h) m0 m1
follows_err d k h m0 m1 p q =
    record { answer = answers_err d k m1.account h p.answer; after = p.after; leaves = leaves_bind d k m1.account.left p.leaves q }

-- what a `?` gives on is the halt of its call
pub follows_passed : {A : Type 0} (d : Run A) (h : Halt) (r : Result A Halt) (m0 m1 : Meter) → IsErrAnd r (λ x. x ≡ h) → Follows d (Err h) m0 m1 → Follows d r m0 m1
follows_passed d h r m0 m1 e f =
    let p = err_from_is_err_and r e in
    rw (p.1, p.2) f

-- and where that call was the first part
pub follows_halted : {A B : Type 0} (d : Run A) (k : A → Account → Run B) (h : Halt) (r : Result B Halt) (m0 m1 : Meter) → IsErrAnd r (λ x. x ≡ h) → Follows d (Err h) m0 m1 →
    ((a : A) (u : Account) → Leaves (k a u).end u.left) → Follows (bind d k) r m0 m1
follows_halted d k h r m0 m1 e p q = follows_passed (bind d k) h r m0 m1 e (follows_err d k h m0 m1 p q)

pub follows_done : {A : Type 0} (a : A) (m : Meter) → Follows (done a m.account) (Ok a) m m
follows_done a m = record { answer = refl; after = after-refl m; leaves = same_left m.account }

pub follows_refused : {A : Type 0} (b : Broken) (m : Meter) → Follows {A = A} (refused b m.account) (Err (Refusal b)) m m
follows_refused b m = record { answer = refl; after = after-refl m; leaves = same_left m.account }

pub follows_memory : {A : Type 0} (d : Run A) (m : Meter) → Leaves d.end m.account.left → Follows d (Err (Stop Memory)) m m
follows_memory d m l = record { answer = tt; after = after-refl m; leaves = l }

-- a `?` gives on that there is no memory
pub follows_no_memory : {A : Type 0} (d : Run A) (s : StopKind) (r : Result A Halt) (m : Meter) → s ≡ Memory → IsErrAnd r (λ x. x ≡ Stop s) → Leaves d.end m.account.left → Follows d r m m
follows_no_memory d s r m w e l =
    let f : Follows d (Err (Stop s)) m m = rw w (follows_memory d m l) in
    follows_passed d (Stop s) r m m e f

-- where no unit is left, nothing is done
pub paid-none : {A : Type 0} (n : ℕ) (go : Run A) → n ≡ 0 → paid n go ≡ no_unit
paid-none zero go h = refl
paid-none (suc n) go h = absurd (omega arith)

pub ticking-more : {A : Type 0} (u : Account) (go : Account → Run A) → 0 < u.left → ticking u go ≡ go (ticked u)
unfolding ticking
ticking-more u go h = paid_is u.left (go (ticked u)) h

pub ticking-none : {A : Type 0} (u : Account) (go : Account → Run A) → u.left ≡ 0 → ticking u go ≡ no_unit
unfolding ticking
ticking-none u go h = paid-none u.left (go (ticked u)) h

-- a unit is taken, and the rest follows
pub follows_tick : {A : Type 0} (go : Account → Run A) (r : Result A Halt) (m0 m1 m2 : Meter) → 0 < m0.account.left → m1.account ≡ ticked m0.account → m1.nest ≡ m0.nest → Follows (go m1.account) r m1 m2 → Follows (ticking m0.account go) r m0 m2
follows_tick go r m0 m1 m2 h e n f =
    let s = after-trans m0 m1 m2 (after-tick m0 m1 e n) f.after in
    rw (ticking-more m0.account go h, ← e) (record { answer = f.answer; after = s; leaves = f.leaves })

pub follows_spent : {A : Type 0} (go : Account → Run A) (m0 m1 : Meter) → m0.account.left ≡ 0 → m1.account ≡ ticked m0.account → m1.nest ≡ m0.nest → Follows (ticking m0.account go) (Err (Stop Spent)) m0 m1
follows_spent go m0 m1 z e n =
    rw (ticking-none m0.account go z) (record { answer = (refl, rw e (omega arith)); after = after-tick m0 m1 e n; leaves = tt })

-- no room for one more rule
pub follows_nested : {A : Type 0} (m0 m1 m2 : Meter) → 0 < m0.account.left → m1.account ≡ ticked m0.account → m1.nest ≡ m0.nest → m2.account ≡ m1.account → m2.nest ≡ m1.nest → Follows {A = A} (ticking m0.account (λ v. too_nested)) (Err (Stop TooDeep)) m0 m2
follows_nested m0 m1 m2 h e n e' n' =
    rw (ticking-more m0.account (λ v. too_nested) h) (record { answer = refl; after = after-tick m0 m2 (e' ∙ e) (n' ∙ n); leaves = tt })

-- a unit, one more rule that stands, the rest, and the rule is left
pub follows_entered : {A : Type 0} (go : Account → Run A) (r : Result A Halt) (m0 m1 m2 m3 m4 : Meter) → 0 < m0.account.left → m1.account ≡ ticked m0.account → m1.nest ≡ m0.nest → m2.account ≡ m1.account → m2.nest ≡ m1.nest + 1 → Follows (go
    m2.account) r m2 m3 → m4.account ≡ m3.account → m4.nest ≡ m3.nest - 1 → Follows (ticking m0.account go) r m0 m4
follows_entered go r m0 m1 m2 m3 m4 h e n e' n' f e'' n'' =
    let q = f.after.nest in
    let s : IsAfter m0 m4 = record {
      nest = omega arith;
      left = rw e'' (omega (arith, f.after.left, ap (λ u. u.left) (e' ∙ e)));
      uses = λ i. rw e'' (let x = f.after.uses i in rw (e', e) at x);
    } in
    let w : ticked m0.account ≡ m2.account = sym (e' ∙ e) in
    rw (ticking-more m0.account go h, w) (record { answer = rw e'' f.answer; after = s; leaves = rw e'' f.leaves })

-- a rule is noted, and the rest follows
pub follows_noted : {A : Type 0} (go : Account → Run A) (r : Result A Halt) (k : ℕ) (m0 m1 m2 : Meter) → m1.account ≡ noted k m0.account → m1.nest ≡ m0.nest → Follows (go m1.account) r m1 m2 → Follows (go (noted k m0.account)) r m0 m2
follows_noted go r k m0 m1 m2 e n f =
    let s = after-trans m0 m1 m2 (after-note k m0 m1 e n) f.after in
    rw (← e) (record { answer = f.answer; after = s; leaves = f.leaves })

-- nothing is done with the meter
pub follows_still : {A : Type 0} (d : Run A) (r : Result A Halt) (m : Meter) → Answers d r m.account → Leaves d.end m.account.left → Follows d r m m
follows_still d r m h l = record { answer = h; after = after-refl m; leaves = l }

-- a term is beyond the limits exactly where the test says so
pub beyond_is : (t : Term) → IsBeyond t → IsTrue (is_beyond t)
beyond_is t (inl h) = or_left (nat_lt depth_limit (depth t)) (nat_lt (2 ^ 32) (above t)) (lt-ltb depth_limit (depth t) h)
beyond_is t (inr h) = or_right (nat_lt depth_limit (depth t)) (nat_lt (2 ^ 32) (above t)) (lt-ltb (2 ^ 32) (above t) h)

-- a term is made, or there is a fault
pub follows_made : (t made : Term) (m : Meter) → made ≡ t → Follows (make t m.account) (Ok made) m m
follows_made t made m e = record { answer = ap (λ x. Done x m.account) (sym e); after = after-refl m; leaves = same_left m.account }

pub answers_fault : (t : Term) (f : MakeFault) (u : Account) → (f ≡ DeepTerm → IsBeyond t) → Answers (make t u) (Err (Stop (stop_of f))) u
answers_fault t DeepTerm u h = beyond_is t (h refl)
answers_fault t NoTerm u h = tt

pub follows_fault : (t : Term) (f : MakeFault) (m : Meter) → (f ≡ DeepTerm → IsBeyond t) → Follows (make t m.account) (Err (Stop (stop_of f))) m m
follows_fault t f m h = record { answer = answers_fault t f m.account h; after = after-refl m; leaves = same_left m.account }

-- a result in the making of which a limit may be passed
pub follows_result : {A : Type 0} (beyond : Bool) (a : A) (m : Meter) → Follows (made beyond a m.account) (Ok a) m m
follows_result beyond a m = record { answer = refl; after = after-refl m; leaves = same_left m.account }

-- terms are made, among which some may be beyond the limits
pub follows_passing : (beyond : Bool) (m : Meter) → Follows (passing beyond m.account) (Ok tt) m m
follows_passing beyond m = record { answer = refl; after = after-refl m; leaves = same_left m.account }

-- a limit is passed
pub follows_deep : {A : Type 0} (d : Run A) (m : Meter) → IsTrue d.deep → Leaves d.end m.account.left → Follows d (Err (Stop TooDeep)) m m
follows_deep d m h l = record { answer = h; after = after-refl m; leaves = l }

-- one of two runs
pub follows_then : {A : Type 0} (b : Bool) (p q : Run A) (r : Result A Halt) (m0 m1 : Meter) → b ≡ true → Follows p r m0 m1 → Follows (if b then p else q) r m0 m1
follows_then true p q r m0 m1 e f = f
follows_then false p q r m0 m1 e f = absurd (cc)

pub follows_else : {A : Type 0} (b : Bool) (p q : Run A) (r : Result A Halt) (m0 m1 : Meter) → b ≡ false → Follows q r m0 m1 → Follows (if b then p else q) r m0 m1
follows_else true p q r m0 m1 e f = absurd (cc)
follows_else false p q r m0 m1 e f = f

-- each of a list of acts, the first first
pub follows_none : (m : Meter) → Follows (run_all [] m.account) (Ok tt) m m
unfolding run_all
follows_none m = record { answer = refl; after = after-refl m; leaves = same_left m.account }

pub follows_next : (act : Act) (acts : List Act) (r : Result (Unit {0}) Halt) (m0 m1 m2 : Meter) → Follows (act m0.account) (Ok tt) m0 m1 → Follows (run_all acts m1.account) r m1 m2 → Follows (run_all (act ∷ acts) m0.account) r m0 m2
unfolding run_all
follows_next act acts r m0 m1 m2 p q = follows_bind (act m0.account) (λ _ v. run_all acts v) tt r m0 m1 m2 p q

pub follows_first_err : (act : Act) (acts : List Act) (h : Halt) (m0 m1 : Meter) → Follows (act m0.account) (Err h) m0 m1 →
    ((u : Account) → Leaves (run_all acts u).end u.left) → Follows (run_all (act ∷ acts) m0.account) (Err h) m0 m1
unfolding run_all
follows_first_err act acts h m0 m1 p q = follows_err (act m0.account) (λ _ v. run_all acts v) h m0 m1 p (λ _. q)

pub follows_first_halted : (act : Act) (acts : List Act) (h : Halt) (r : Result (Unit {0}) Halt) (m0 m1 : Meter) → IsErrAnd r (λ x. x ≡ h) → Follows (act m0.account) (Err h) m0 m1 →
    ((u : Account) → Leaves (run_all acts u).end u.left) → Follows (run_all (act ∷ acts) m0.account) r m0 m1
follows_first_halted act acts h r m0 m1 e p q = follows_passed (run_all (act ∷ acts) m0.account) h r m0 m1 e (follows_first_err act acts h m0 m1 p q)

-- a term without a step is its own weak-head normal form
pub steps_stop : (E : Env) (V : Values) (n : ℕ) (t : Term) (u : Account) → weak_next E V t ≡ None → steps E V n t u ≡ done t u
unfolding steps
steps_stop E V zero t u e = ap (λ o. stuck_step o (done t u)) e
steps_stop E V (suc n) t u e = ap (λ o. after_step o (done t u) (λ next. steps E V n next (ticked u))) e

pub follows_whnf_stays : (E : Env) (V : Values) (t same : Term) (m : Meter) → weak_next E V t ≡ None → same ≡ t → Follows (whnf E V t m.account) (Ok same) m m
follows_whnf_stays E V t same m e p = rw (steps_stop E V m.account.left t m.account e, p) (follows_done t m)

-- what is done at once goes on at once
pub bind_done : {A B : Type 0} (a : A) (u : Account) (k : A → Account → Run B) → bind (done a u) k ≡ k a u
unfolding bind
bind_done a u k = refl
