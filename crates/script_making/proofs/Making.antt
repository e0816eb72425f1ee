-- How answers come from directed rules that write, which are done one after the other.
use Rattle.std.proofs.Common.{◌≡◌, ◌∙◌, sym, ap, refl, subst, ℕ, ◌<◌, ◌+◌, ◌-◌, Result, Ok, Err, IsErrAnd, IfOk, IfErr, IsTrue, Bool, true, false, if◌then◌else◌, List, [], ◌∷◌, ◌++◌}
use Rattle.std.proofs.lemmas.List.{append-nil, append_assoc}
use Rattle.std.proofs.lemmas.Result.{err_from_is_err_and}
use Rattle.trees.specs.Measures.{IsBeyond}
use Rattle.pc_terms.specs.Syntax.{Term}
use Rattle.pc_terms.specs.declared.term.MakeFault.{MakeFault}
use Rattle.pc_terms.specs.declared.term.MakeFault.TheVariants.{TooDeep as DeepTerm, Memory as NoTerm}
use Rattle.pc_rules.specs.declared.meter.Account.{Account}
use Rattle.pc_rules.specs.declared.meter.Meter.{Meter}
use Rattle.pc_rules.specs.declared.stop.Stop.TheVariants.{Spent, TooDeep, Memory}
use Rattle.pc_rules.specs.declared.stop.Halt.{Halt}
use Rattle.pc_rules.specs.declared.stop.Halt.TheVariants.{Stop, Broken as Refusal}
use Rattle.pc_rules.specs.Stops.{stop_of}
use Rattle.pc_rules.specs.DirectedRun.{Run, Done, ticked, noted, done, make, passing, end_then, too_nested, ticking}
use Rattle.pc_rules.specs.Follows.{Follows, IsAfter, Answers, Halts}
use Rattle.pc_rules.proofs.Fair.{same_left}
use Rattle.pc_rules.proofs.Following.{or_left, or_right, ticking-more, leaves_at, follows_done, follows_made, follows_fault, follows_passing, follows_deep, follows_entered, follows_spent, follows_nested, follows_noted}
use Rattle.pc_rules.proofs.Meters.{after-refl, after-trans}
use Rattle.cert_rules.specs.Walk.{Items}
use Rattle.cert_rules.specs.Writing.{Wrote, wrote, WriteAct, end_writing, writing_steps, silent, noting_all, end_before, write_on, write_all, end_forgotten, forgotten}
use Rattle.script_making.specs.declared.draft.Draft.{Draft}
use Rattle.script_making.specs.Makes.{Writes, Makes, without_count}

-- the end of a run whose first part is done, and whether it has passed a limit
on_end : {A B : Type 0} (d : Run (Wrote A)) (k : A → Account → Run (Wrote B)) (w : Wrote A) (u : Account) → d.end ≡ Done w u → (write_on d k).end ≡ end_before w.items (k w.value u).end
unfolding write_on
on_end d k w u e = ap (λ x. end_then x (λ w u. end_before w.items (k w.value u).end)) e

on_deep : {A B : Type 0} (d : Run (Wrote A)) (k : A → Account → Run (Wrote B)) (w : Wrote A) (u : Account) → d.end ≡ Done w u → IsTrue (k w.value u).deep → IsTrue (write_on d k).deep
unfolding write_on
on_deep d k w u e h = or_right d.deep _ (rw e h)

writes_more : {A B : Type 0} (d : Run (Wrote A)) (k : A → Account → Run (Wrote B)) (is : Items) (a : A) (t0 t1 t2 : Draft) (r : Result B Halt) → d.end ≡ Done (wrote is a) t1.meter.account →
    t1.written.items ≡ t0.written.items ++ is → Writes (k a t1.meter.account) r t1 t2 → Writes (write_on d k) r t0 t2
writes_more d k is a t0 t1 t2 (Ok b) e w h = (
  is ++ h.0,
  on_end d k (wrote is a) t1.meter.account e ∙ ap (λ x. end_before is x) h.1,
  h.2 ∙ ap (λ xs. xs ++ h.0) w ∙ append_assoc t0.written.items is h.0,
)
writes_more d k is a t0 t1 t2 (Err (Stop Spent)) e w h = (on_end d k (wrote is a) t1.meter.account e ∙ ap (λ x. end_before is x) h.0, h.1)
writes_more d k is a t0 t1 t2 (Err (Stop TooDeep)) e w h = on_deep d k (wrote is a) t1.meter.account e h
writes_more d k is a t0 t1 t2 (Err (Stop Memory)) e w h = tt
writes_more d k is a t0 t1 t2 (Err (Refusal b)) e w h = on_end d k (wrote is a) t1.meter.account e ∙ ap (λ x. end_before is x) h

writes_err : {A B : Type 0} (d : Run (Wrote A)) (k : A → Account → Run (Wrote B)) (u : Account) (h : Halt) → Halts d h u → Halts (write_on d k) h u
unfolding write_on
writes_err d k u (Stop Spent) h = (ap (λ x. end_then x (λ w u. end_before w.items (k w.value u).end)) h.0, h.1)
writes_err d k u (Stop TooDeep) h = or_left d.deep _ h
writes_err d k u (Stop Memory) h = tt
writes_err d k u (Refusal b) h = ap (λ x. end_then x (λ w u. end_before w.items (k w.value u).end)) h

-- the first part is made, and the rest is made from there
pub makes_on : {A B : Type 0} {d : Run (Wrote A)} {a : A} {r : Result B Halt} {t0 t1 t2 : Draft} (k : A → Account → Run (Wrote B)) → Makes d (Ok a) t0 t1 → Makes (k a t1.meter.account) r t1 t2 →
    Makes (write_on d k) r t0 t2
makes_on {d = d} {a = a} {r = r} {t0 = t0} {t1 = t1} {t2 = t2} k p q =
    record { answer = writes_more d k p.answer.0 a t0 t1 t2 r p.answer.1 p.answer.2 q.answer; after = after-trans t0.meter t1.meter t2.meter p.after q.after }

-- the first part is refused or stops
pub makes_err : {A B : Type 0} {d : Run (Wrote A)} {h : Halt} {t0 t1 : Draft} (k : A → Account → Run (Wrote B)) → Makes d (Err h) t0 t1 → Makes (write_on d k) (Err h) t0 t1
makes_err {d = d} {h = h} {t1 = t1} k p = record { answer = writes_err d k t1.meter.account h p.answer; after = p.after }

pub makes_memory : {A : Type 0} (d : Run (Wrote A)) (t : Draft) → Makes d (Err (Stop Memory)) t t
makes_memory d t = record { answer = tt; after = after-refl t.meter }

-- one of two runs
pub makes_then : {A : Type 0} (b : Bool) (p q : Run (Wrote A)) (r : Result A Halt) (t0 t1 : Draft) → b ≡ true → Makes p r t0 t1 → Makes (if b then p else q) r t0 t1
makes_then true p q r t0 t1 e f = f
makes_then false p q r t0 t1 e f = absurd (cc)

pub makes_else : {A : Type 0} (b : Bool) (p q : Run (Wrote A)) (r : Result A Halt) (t0 t1 : Draft) → b ≡ false → Makes q r t0 t1 → Makes (if b then p else q) r t0 t1
makes_else true p q r t0 t1 e f = absurd (cc)
makes_else false p q r t0 t1 e f = f

-- what a `?` gives on is the halt of its call, also where only the answer without its result is told of
pub makes_passed : {A : Type 0} {d : Run (Wrote A)} {r : Result A Halt} {h : Halt} {t0 t1 : Draft} → IsErrAnd r (λ e. e ≡ h) → Makes d (Err h) t0 t1 → Makes d r t0 t1
makes_passed {r = r} e f =
    let p = err_from_is_err_and r e in
    rw (p.1, p.2) f

-- and it gives nothing else on
pub passed_nothing : {A : Type 0} (P : A → Type 0) (r : Result A Halt) (h : Halt) → IsErrAnd r (λ e. e ≡ h) → IfOk r P
passed_nothing P (Ok a) h e = absurd e
passed_nothing P (Err y) h e = tt

-- a run that writes so many items, by the units that it takes

halts_writing : {A : Type 0} (u : Account) (is : ℕ → Items) (d : Run A) (h : Halt) (v : Account) → Halts d h v → Halts (writing_steps u is d) h v
unfolding writing_steps
halts_writing u is d (Stop Spent) v h = (ap (λ e. end_writing u is e) h.0, h.1)
halts_writing u is d (Stop TooDeep) v h = h
halts_writing u is d (Stop Memory) v h = tt
halts_writing u is d (Refusal b) v h = ap (λ e. end_writing u is e) h

done_writing : {A : Type 0} (u : Account) (is : ℕ → Items) (d : Run A) (a : A) (v : Account) → d.end ≡ Done a v → (writing_steps u is d).end ≡ Done (wrote (is (u.left - v.left)) a) v
unfolding writing_steps
done_writing u is d a v h = ap (λ e. end_writing u is e) h

pub makes_steps : {A : Type 0} (is : ℕ → Items) (d : Run A) (a : A) (t0 t1 t2 : Draft) → Follows d (Ok a) t0.meter t1.meter → t2.meter ≡ t1.meter →
    t2.written.items ≡ t0.written.items ++ is (t0.meter.account.left - t1.meter.account.left) → Makes (writing_steps t0.meter.account is d) (Ok a) t0 t2
makes_steps is d a t0 t1 t2 f e w = record {
  answer = (is (t0.meter.account.left - t1.meter.account.left), done_writing t0.meter.account is d a t1.meter.account f.answer ∙ ap (λ m. Done (wrote (is (t0.meter.account.left - t1.meter.account.left)) a) m.account) (sym e), w);
  after = subst (λ m. IsAfter t0.meter m) (sym e) f.after;
}

pub makes_halt : {A : Type 0} (is : ℕ → Items) (d : Run A) (h : Halt) (t0 t1 : Draft) → Follows d (Err h) t0.meter t1.meter → Makes (writing_steps t0.meter.account is d) (Err h) t0 t1
makes_halt is d h t0 t1 f = record { answer = halts_writing t0.meter.account is d h t1.meter.account f.answer; after = f.after }

-- where there is no memory for what is written
pub makes_unwritten : {A : Type 0} (d : Run (Wrote A)) (h : Halt) (t0 t1 t2 : Draft) → h ≡ Stop Memory → IsAfter t0.meter t1.meter → t2.meter ≡ t1.meter → Makes d (Err h) t0 t2
makes_unwritten d h t0 t1 t2 e f m = rw e (record { answer = tt; after = subst (λ x. IsAfter t0.meter x) (sym m) f })

-- what comes last is the writing
pub makes_written : (is : ℕ → Items) (d : Run (Unit {0})) (r : Result (Unit {0}) Halt) (t0 t1 t2 : Draft) → Follows d (Ok tt) t0.meter t1.meter → t2.meter ≡ t1.meter →
    IfOk r (λ _. t2.written.items ≡ t0.written.items ++ is (t0.meter.account.left - t1.meter.account.left)) → IfErr r (λ h. h ≡ Stop Memory) → Makes (writing_steps t0.meter.account is d) r t0 t2
makes_written is d (Ok x) t0 t1 t2 f e w m = makes_steps is d tt t0 t1 t2 f e w
makes_written is d (Err h) t0 t1 t2 f e w m = makes_unwritten (writing_steps t0.meter.account is d) h t0 t1 t2 m f.after e

pub makes_put : {A : Type 0} (is : ℕ → Items) (d : Run A) (a : A) (n : ℕ) (t0 t1 t2 : Draft) → Follows d (Ok a) t0.meter t1.meter → t1.written ≡ t0.written →
    n ≡ t0.meter.account.left - t1.meter.account.left → t2.meter ≡ t1.meter → t2.written.items ≡ t1.written.items ++ is n → Makes (writing_steps t0.meter.account is d) (Ok a) t0 t2
makes_put is d a n t0 t1 t2 f w c e w2 =
    makes_steps is d a t0 t1 t2 f e (w2 ∙ ap (λ x. x.items ++ is n) w ∙ ap (λ k. t0.written.items ++ is k) c)

-- items are written, and no unit is taken

pub makes_noted : (xs : Items) (t0 t1 : Draft) → t1.meter ≡ t0.meter → t1.written.items ≡ t0.written.items ++ xs → Makes (noting_all xs t0.meter.account) (Ok tt) t0 t1
makes_noted xs t0 t1 e w = makes_steps (λ n. xs) (done tt t0.meter.account) tt t0 t0 t1 (follows_done tt t0.meter) e w

-- what takes no item is done by calls that follow the directed rules

silent_writes : {A : Type 0} (f : Account → Run A) (r : Result A Halt) (t0 t1 : Draft) → Answers (f t0.meter.account) r t1.meter.account → t1.written.items ≡ t0.written.items →
    Writes (silent f t0.meter.account) r t0 t1
silent_writes f (Ok a) t0 t1 h w = ([], done_writing t0.meter.account (λ n. []) (f t0.meter.account) a t1.meter.account h, w ∙ sym (append-nil t0.written.items))
silent_writes f (Err x) t0 t1 h w = halts_writing t0.meter.account (λ n. []) (f t0.meter.account) x t1.meter.account h

pub makes_silent : {A : Type 0} (f : Account → Run A) {r : Result A Halt} {t0 t1 : Draft} → Follows (f t0.meter.account) r t0.meter t1.meter → t1.written.items ≡ t0.written.items →
    Makes (silent f t0.meter.account) r t0 t1
makes_silent f {r = r} {t0 = t0} {t1 = t1} p w = record { answer = silent_writes f r t0 t1 p.answer w; after = p.after }

-- through the meter of a draft
pub makes_metered : {A : Type 0} (f : Account → Run A) (r : Result A Halt) (t : Draft) (m : Meter) → Follows (f t.meter.account) r t.meter m →
    Makes (silent f t.meter.account) r t (record { meter = m; written = t.written })
makes_metered f r t m p = makes_silent f p refl

-- also those that take no unit
pub makes_answers : {A : Type 0} (f : Account → Run A) {r : Result A Halt} {t : Draft} → Answers (f t.meter.account) r t.meter.account → Makes (silent f t.meter.account) r t t
makes_answers f {r = r} {t = t} h = record { answer = silent_writes f r t t h refl; after = after-refl t.meter }

pub makes_done : {A : Type 0} (a : A) (t : Draft) → Makes (silent (done a) t.meter.account) (Ok a) t t
makes_done a t = makes_answers (done a) refl

-- a result by an equation
pub makes_value : {A : Type 0} (a b : A) (t : Draft) → a ≡ b → Makes (silent (done b) t.meter.account) (Ok a) t t
makes_value a b t e = rw e (makes_done b t)

-- a term is made, or there is a fault
pub makes_made : (T made : Term) (t : Draft) → made ≡ T → Makes (silent (make T) t.meter.account) (Ok made) t t
makes_made T made t e = makes_silent (make T) (follows_made T made t.meter e) refl

pub makes_fault : (T : Term) (f : MakeFault) (t : Draft) → (f ≡ DeepTerm → IsBeyond T) → Makes (silent (make T) t.meter.account) (Err (Stop (stop_of f))) t t
makes_fault T f t h = makes_silent (make T) (follows_fault T f t.meter h) refl

-- terms are made, of which some may be beyond the limits
pub makes_passing : {B : Type 0} (b : Bool) (k : Unit {0} → Account → Run (Wrote B)) {r : Result B Halt} {t0 t1 : Draft} → Makes (k tt t0.meter.account) r t0 t1 →
    Makes (write_on (silent (passing b) t0.meter.account) k) r t0 t1
makes_passing b k {t0 = t0} p = makes_on k (makes_silent (passing b) (follows_passing b t0.meter) refl) p

deep_passing : (b : Bool) (f : MakeFault) (t : Draft) → (f ≡ DeepTerm → IsTrue b) → Makes (silent (passing b) t.meter.account) (Err (Stop (stop_of f))) t t
deep_passing b DeepTerm t h = makes_silent (passing b) (follows_deep (passing b t.meter.account) t.meter (h refl) (same_left t.meter.account)) refl
deep_passing b NoTerm t h = makes_memory (silent (passing b) t.meter.account) t

pub makes_beyond : {B : Type 0} (b : Bool) (k : Unit {0} → Account → Run (Wrote B)) (f : MakeFault) (t : Draft) → (f ≡ DeepTerm → IsTrue b) →
    Makes (write_on (silent (passing b) t.meter.account) k) (Err (Stop (stop_of f))) t t
makes_beyond b k f t h = makes_err k (deep_passing b f t h)

-- a unit is taken, one more rule stands, and the rest is made

pub makes_spent : {A : Type 0} (go : Account → Run (Wrote A)) (t0 t1 : Draft) → t0.meter.account.left ≡ 0 → t1.meter.account ≡ ticked t0.meter.account → t1.meter.nest ≡ t0.meter.nest →
    Makes (ticking t0.meter.account go) (Err (Stop Spent)) t0 t1
makes_spent go t0 t1 z e n =
    let f = follows_spent go t0.meter t1.meter z e n in
    record { answer = f.answer; after = f.after }

pub makes_nested : {A : Type 0} (t0 t1 t2 : Draft) → 0 < t0.meter.account.left → t1.meter.account ≡ ticked t0.meter.account → t1.meter.nest ≡ t0.meter.nest → t2.meter.account ≡ t1.meter.account →
    t2.meter.nest ≡ t1.meter.nest → Makes {A = A} (ticking t0.meter.account (λ v. too_nested)) (Err (Stop TooDeep)) t0 t2
makes_nested {A = A} t0 t1 t2 h e n e2 n2 =
    let f = follows_nested {A = Wrote A} t0.meter t1.meter t2.meter h e n e2 n2 in
    record { answer = f.answer; after = f.after }

writes_as : {A : Type 0} (d : Run (Wrote A)) (r : Result A Halt) (t0 t1 t2 t3 : Draft) → t1.written.items ≡ t0.written.items → t3.meter.account ≡ t2.meter.account → t3.written.items ≡ t2.written.items →
    Writes d r t1 t2 → Writes d r t0 t3
writes_as d (Ok a) t0 t1 t2 t3 w e w3 h = (h.0, h.1 ∙ ap (λ u. Done (wrote h.0 a) u) (sym e), w3 ∙ h.2 ∙ ap (λ xs. xs ++ h.0) w)
writes_as d (Err x) t0 t1 t2 t3 w e w3 h = subst (λ u. Halts d x u) (sym e) h

pub makes_entered : {A : Type 0} (go : Account → Run (Wrote A)) (r : Result A Halt) (t0 t1 t2 t3 t4 : Draft) → 0 < t0.meter.account.left →
    t1.meter.account ≡ ticked t0.meter.account → t1.meter.nest ≡ t0.meter.nest → t2.meter.account ≡ t1.meter.account → t2.meter.nest ≡ t1.meter.nest + 1 → t2.written.items ≡ t0.written.items →
    Makes (go t2.meter.account) r t2 t3 → t4.meter.account ≡ t3.meter.account → t4.meter.nest ≡ t3.meter.nest - 1 → t4.written.items ≡ t3.written.items → Makes (ticking t0.meter.account go) r t0 t4
makes_entered {A = A} go r t0 t1 t2 t3 t4 h e n e2 n2 w2 p e4 n4 w4 =
    let after = (follows_entered {A = A} (λ v. too_nested) (Err (Stop Memory)) t0.meter t1.meter t2.meter t3.meter t4.meter h e n e2 n2 (record { answer = tt; after = p.after; leaves = tt }) e4 n4).after in
    let k : ticked t0.meter.account ≡ t2.meter.account = sym (e2 ∙ e) in
    rw (ticking-more t0.meter.account go h, k) (record { answer = writes_as (go t2.meter.account) r t0 t2 t3 t4 w2 e4 w4 p.answer; after = after })

-- a use of a rule is noted, and the rest is made
pub makes_used : {A : Type 0} (go : Account → Run (Wrote A)) (r : Result A Halt) (i : ℕ) (t0 t1 t2 : Draft) → t1.meter.account ≡ noted i t0.meter.account → t1.meter.nest ≡ t0.meter.nest →
    t1.written.items ≡ t0.written.items → Makes (go t1.meter.account) r t1 t2 → Makes (go (noted i t0.meter.account)) r t0 t2
makes_used {A = A} go r i t0 t1 t2 e n w p =
    let after = (follows_noted {A = A} (λ v. too_nested) (Err (Stop Memory)) i t0.meter t1.meter t2.meter e n (record { answer = tt; after = p.after; leaves = tt })).after in
    rw (← e) (record { answer = writes_as (go t1.meter.account) r t0 t1 t2 t2 w refl refl p.answer; after = after })

-- each of a list of runs that write, the first first

pub makes_none : (t : Draft) → Makes (write_all [] t.meter.account) (Ok tt) t t
unfolding write_all
makes_none t = makes_done tt t

pub makes_next : (act : WriteAct) (acts : List WriteAct) (r : Result (Unit {0}) Halt) (t0 t1 t2 : Draft) → Makes (act t0.meter.account) (Ok tt) t0 t1 → Makes (write_all acts t1.meter.account) r t1 t2 →
    Makes (write_all (act ∷ acts) t0.meter.account) r t0 t2
unfolding write_all
makes_next act acts r t0 t1 t2 p q = makes_on (λ _ v. write_all acts v) p q

pub makes_first_err : (act : WriteAct) (acts : List WriteAct) (h : Halt) (t0 t1 : Draft) → Makes (act t0.meter.account) (Err h) t0 t1 → Makes (write_all (act ∷ acts) t0.meter.account) (Err h) t0 t1
unfolding write_all
makes_first_err act acts h t0 t1 p = makes_err (λ _ v. write_all acts v) p

-- but for the items, what is made is what the directed rules give
pub made_follows : {A : Type 0} (d : Run (Wrote A)) (e : Run A) (a : A) {t0 t1 : Draft} → forgotten d ≡ e → Makes d (Ok a) t0 t1 → Follows e (Ok a) t0.meter t1.meter
made_follows d e a {t1 = t1} g p =
    let h : e.end ≡ Done a t1.meter.account = sym (ap (λ x. x.end) g) ∙ ap (λ x. end_forgotten x) p.answer.1 in
    record { answer = h; after = p.after; leaves = leaves_at e (Done a t1.meter.account) t1.meter.account.left h (same_left t1.meter.account) }

-- what a `?` gives on, without its number
pub counted_passed : (d : Run Term) (r : Result (ℕ × Term) Halt) (h : Halt) (m0 m1 : Meter) → IsErrAnd r (λ e. e ≡ h) → Follows d (Err h) m0 m1 → Follows d (without_count r) m0 m1
counted_passed d r h m0 m1 e f =
    let p = err_from_is_err_and r e in
    rw (p.1, p.2) f
