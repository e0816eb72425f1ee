-- How what is written by directed rules leads a certified walk: it comes to the same result with the same items, and takes no more units, unless
-- too many rules stand in one another. And what is written forgets to the run of the directed rules.
use Rattle.std.proofs.Common.{◌≡◌, ◌∙◌, ℕ, zero, suc, ◌+◌, ◌-◌, ◌≤◌, ◌<◌, ◌⊎◌, inl, inr, Bool, true, false, ◌||◌, if◌then◌else◌, List, [], ◌∷◌, ◌++◌, length, Some, refl, sym, ap, subst, arith, slice_get, length-append}
use Rattle.pc_rules.specs.declared.broken.Broken.{Broken}
use Rattle.pc_rules.specs.declared.meter.Account.{Account}
use Rattle.pc_rules.specs.DirectedRun as run
use Rattle.pc_rules.specs.DirectedRun.{Run, ticked, paid, ticking, bind, noted, too_nested}
use Rattle.pc_rules.specs.DirectedTyping.{conv}
use Rattle.rule_laws.proofs.Runs.{ticking_done, refused_done, unit_done, nested_done, done_value}
use Rattle.cert_rules.specs.declared.item.CertItem.{CertItem}
use Rattle.cert_rules.specs.Walk.{Items, WalkState, Passed, Crowded, Walk, pass, past, tick, paid_walk, walk_ticking, end_on, WalkAct, walk_on, walk_all, end_at, by_rules}
use Rattle.cert_rules.specs.Writing.{Wrote, wrote, WriteAct, end_writing, writing_steps, silent, noting, end_before, write_on, write_all, end_forgotten, forgotten}
use Rattle.cert_rules.proofs.Exact.{done_account, IsExact, ticking_positive}

-- runs that write, and are done

pub before_done : {A : Type 0} (is : Items) (e : run.End (Wrote A)) (r : Wrote A) (v : Account) → end_before is e ≡ run.Done r v →
    (w : Wrote A) × (e ≡ run.Done w v) × (wrote (is ++ w.items) w.value ≡ r)
before_done is (run.Done w u) r v h = (w, ap (λ x. run.Done w x) (done_account h), done_value h)
before_done is (run.Refused b u) r v h = absurd (refused_done h)
before_done is run.NoUnit r v h = absurd (unit_done h)
before_done is run.Nested r v h = absurd (nested_done h)

-- one after the other
abbrev pub Writes : {A B : Type 0} → run.End (Wrote A) → (A → Account → run.End (Wrote B)) → Wrote B → Account → Type 0
Writes {A} {B} e k r v =
    (w : Wrote A) × (u : Account) × (e ≡ run.Done w u) × ((x : Wrote B) × (k w.value u ≡ run.Done x v) × (wrote (w.items ++ x.items) x.value ≡ r))

write_end : {A B : Type 0} (e : run.End (Wrote A)) (k : A → Account → run.End (Wrote B)) (r : Wrote B) (v : Account) →
    run.end_then e (λ w u. end_before w.items (k w.value u)) ≡ run.Done r v → Writes e k r v
write_end (run.Done w u) k r v h = let p = before_done w.items (k w.value u) r v h in (w, u, refl, (p.0, p.1, p.2))
write_end (run.Refused b u) k r v h = absurd (refused_done h)
write_end run.NoUnit k r v h = absurd (unit_done h)
write_end run.Nested k r v h = absurd (nested_done h)

pub write_both : {A B : Type 0} (d : Run (Wrote A)) (k : A → Account → Run (Wrote B)) (r : Wrote B) (v : Account) → (write_on d k).end ≡ run.Done r v →
    Writes d.end (λ a u. (k a u).end) r v
unfolding write_on
write_both d k r v h = write_end d.end (λ a u. (k a u).end) r v h

writing_end : {A : Type 0} (u : Account) (is : ℕ → Items) (e : run.End A) (r : Wrote A) (v : Account) → end_writing u is e ≡ run.Done r v →
    (e ≡ run.Done r.value v) × (r.items ≡ is (u.left - v.left))
writing_end u is (run.Done a w) r v h =
    let q : w ≡ v = done_account h in
    let p : wrote (is (u.left - w.left)) a ≡ r = done_value h in
    ((λ i. run.Done (p i).value (q i)), sym (ap (λ x. x.items) p) ∙ ap (λ x. is (u.left - x.left)) q)
writing_end u is (run.Refused b w) r v h = absurd (refused_done h)
writing_end u is run.NoUnit r v h = absurd (unit_done h)
writing_end u is run.Nested r v h = absurd (nested_done h)

pub writing_done : {A : Type 0} (u : Account) (is : ℕ → Items) (d : Run A) (r : Wrote A) (v : Account) → (writing_steps u is d).end ≡ run.Done r v →
    (d.end ≡ run.Done r.value v) × (r.items ≡ is (u.left - v.left))
unfolding writing_steps
writing_done u is d r v h = writing_end u is d.end r v h

-- what is forgotten

pub before_forgotten : {A : Type 0} (is : Items) (e : run.End (Wrote A)) → end_forgotten (end_before is e) ≡ end_forgotten e
before_forgotten is (run.Done w u) = refl
before_forgotten is (run.Refused b u) = refl
before_forgotten is run.NoUnit = refl
before_forgotten is run.Nested = refl

writing_forgotten_end : {A : Type 0} (u : Account) (is : ℕ → Items) (e : run.End A) → end_forgotten (end_writing u is e) ≡ e
writing_forgotten_end u is (run.Done a v) = refl
writing_forgotten_end u is (run.Refused b v) = refl
writing_forgotten_end u is run.NoUnit = refl
writing_forgotten_end u is run.Nested = refl

pub writing_forgotten : {A : Type 0} (u : Account) (is : ℕ → Items) (d : Run A) → forgotten (writing_steps u is d) ≡ d
unfolding writing_steps
writing_forgotten u is d = λ i. record { end = writing_forgotten_end u is d.end i; deep = d.deep }

module _ {A B : Type 0} (kg : A → Account → Run (Wrote B)) (kd : A → Account → Run B) where
  end_on_forgotten : (e : run.End (Wrote A)) → ((w : Wrote A) (u : Account) → e ≡ run.Done w u → forgotten (kg w.value u) ≡ kd w.value u) →
      end_forgotten (run.end_then e (λ w u. end_before w.items (kg w.value u).end)) ≡ run.end_then (end_forgotten e) (λ a u. (kd a u).end)
  end_on_forgotten (run.Done w u) h = before_forgotten w.items (kg w.value u).end ∙ ap (λ r. r.end) (h w u refl)
  end_on_forgotten (run.Refused b u) h = refl
  end_on_forgotten run.NoUnit h = refl
  end_on_forgotten run.Nested h = refl

  deep_on_forgotten : (e : run.End (Wrote A)) → ((w : Wrote A) (u : Account) → e ≡ run.Done w u → forgotten (kg w.value u) ≡ kd w.value u) →
      run.deep_then e (λ w u. (kg w.value u).deep) ≡ run.deep_then (end_forgotten e) (λ a u. (kd a u).deep)
  deep_on_forgotten (run.Done w u) h = ap (λ r. r.deep) (h w u refl)
  deep_on_forgotten (run.Refused b u) h = refl
  deep_on_forgotten run.NoUnit h = refl
  deep_on_forgotten run.Nested h = refl

  on_itself : (r : Run (Wrote A)) → ((w : Wrote A) (u : Account) → r.end ≡ run.Done w u → forgotten (kg w.value u) ≡ kd w.value u) →
      forgotten (write_on r kg) ≡ bind (forgotten r) kd
  unfolding bind write_on
  on_itself r h = λ i. record { end = end_on_forgotten r.end h i; deep = r.deep || deep_on_forgotten r.end h i }

  pub on_forgotten : (r : Run (Wrote A)) (d : Run A) → forgotten r ≡ d → ((w : Wrote A) (u : Account) → r.end ≡ run.Done w u → forgotten (kg w.value u) ≡ kd w.value u) →
      forgotten (write_on r kg) ≡ bind d kd
  on_forgotten r d e h = on_itself r h ∙ ap (λ x. bind x kd) e

-- walks

pub on_crowded : {A B : Type 0} (w : Walk A) (k : A → WalkState → Walk B) → w.end ≡ Crowded → (walk_on w k).end ≡ Crowded
unfolding walk_on
on_crowded w k e = ap (λ x. end_on x (λ a s. (k a s).end)) e

pub on_passed : {A B : Type 0} (w : Walk A) (k : A → WalkState → Walk B) (a : A) (s : WalkState) → w.end ≡ Passed a s → (walk_on w k).end ≡ (k a s).end
unfolding walk_on
on_passed w k a s e = ap (λ x. end_on x (λ a s. (k a s).end)) e

pub paid_walk_goes : {A : Type 0} (n : ℕ) (go : Walk A) → 0 < n → (paid_walk n go).end ≡ go.end
paid_walk_goes zero go l = absurd (omega arith)
paid_walk_goes (suc n) go l = refl

pub ticking_walks : {A : Type 0} (s : WalkState) (go : WalkState → Walk A) → 0 < s.account.left → (walk_ticking s go).end ≡ (go (tick s)).end
unfolding walk_ticking
ticking_walks s go l = paid_walk_goes s.account.left (go (tick s)) l

module _ (cert : Items) where
  -- these items stand in the certificate from number i on
  abbrev pub Lies : ℕ → Items → Type 0
  Lies i [] = Unit {0}
  Lies i (x ∷ xs) = (slice_get cert i ≡ Some x) × Lies (i + 1) xs

  pub lies_parts : (xs ys : Items) (i : ℕ) → Lies i (xs ++ ys) → Lies i xs × Lies (i + length xs) ys
  lies_parts [] ys i h = let e : i ≡ i + length {A = CertItem} [] = omega arith in (tt, subst (λ j. Lies j ys) e h)
  lies_parts (x ∷ xs) ys i h =
      let r = lies_parts xs ys (i + 1) h.1 in
      let e : i + 1 + length xs ≡ i + length (x ∷ xs) = omega arith in
      ((h.0, r.0), subst (λ j. Lies j ys) e r.1)

  -- the walk comes to the result and to item i, with the units that are wanted, unless too many rules stand in one another
  abbrev pub Goes : {A : Type 0} → Walk A → A → ℕ → ℕ → ℕ → Type 0
  Goes w a i n m = (w.end ≡ Crowded) ⊎ ((s : WalkState) × (w.end ≡ Passed a s) × (s.at ≡ i) × (n ≤ s.account.left + m))

  -- where directed rules go from account u to v and write these items, the walk goes along them and takes no more units
  pub record Led {A : Type 0} (u v : Account) (is : Items) (h : WalkState → Walk A) (a : A) : Type 0 where
    pub falls : v.left ≤ u.left
    pub walks : (s : WalkState) → Lies s.at is → u.left ≤ s.account.left + v.left → Goes (h s) a (s.at + length is) (s.account.left + v.left) u.left

  module _ {A B : Type 0} (u v w : Account) (is js : Items) (h : WalkState → Walk A) (k : A → WalkState → Walk B) (a : A) (b : B) (p : Led u v is h a) (q : Led v w js (k a) b) where
    led_further : (s : WalkState) → Lies (s.at + length is) js → u.left ≤ s.account.left + w.left → (x : WalkState) → (h s).end ≡ Passed a x → x.at ≡ s.at + length is →
        s.account.left + v.left ≤ x.account.left + u.left → Goes (walk_on (h s) k) b (s.at + length (is ++ js)) (s.account.left + w.left) u.left
    led_further s l m x e at n =
        let f1 : v.left ≤ u.left = p.falls in
        let f2 : w.left ≤ v.left = q.falls in
        elim (q.walks x (subst (λ i. Lies i js) (sym at) l) (omega arith)) [
          | inl c ↦ inl (on_passed (h s) k a x e ∙ c)
          | inr r ↦
              let y : WalkState = r.0 in
              let o : x.account.left + w.left ≤ y.account.left + v.left = r.3 in
              let z : y.at ≡ x.at + length js = r.2 in
              let g : length (is ++ js) ≡ length is + length js = length-append is js in
              inr (y, on_passed (h s) k a x e ∙ r.1, omega arith, omega arith)
        ]

    led_walks : (s : WalkState) → Lies s.at (is ++ js) → u.left ≤ s.account.left + w.left → Goes (walk_on (h s) k) b (s.at + length (is ++ js)) (s.account.left + w.left) u.left
    led_walks s l m =
        let f1 : v.left ≤ u.left = p.falls in
        let f2 : w.left ≤ v.left = q.falls in
        let ls = lies_parts is js s.at l in
        elim (p.walks s ls.0 (omega arith)) [
          | inl c ↦ inl (on_crowded (h s) k c)
          | inr r ↦ led_further s ls.1 m r.0 r.1 r.2 r.3
        ]

    pub led_on : Led u w (is ++ js) (λ s. walk_on (h s) k) b
    led_on = record { falls = (let f1 : v.left ≤ u.left = p.falls in let f2 : w.left ≤ v.left = q.falls in omega arith); walks = led_walks }

  -- an item is taken, and then what is led on
  pub led_item : {A : Type 0} (u v : Account) (x : CertItem) (is : Items) (h k : WalkState → Walk A) (a : A) →
      ((s : WalkState) → slice_get cert s.at ≡ Some x → (k s).end ≡ (h (past s)).end) → Led u v is h a → Led u v (x ∷ is) k a
  led_item u v x is h k a e p = record {
    falls = p.falls;
    walks = λ s l m. elim (p.walks (past s) l.1 m) [
      | inl c ↦ inl (e s l.0 ∙ c)
      | inr r ↦ let z : r.0.at ≡ s.at + 1 + length is = r.2 in inr (r.0, e s l.0 ∙ r.1, (omega arith), r.3)
    ];
  }

  -- nothing is written and the walk stays where it is
  pub led_pass : {A : Type 0} (u : Account) (a : A) → Led u u [] (λ s. pass a s) a
  led_pass u a = record { falls = omega arith; walks = λ s l m. inr (s, refl, omega arith, omega arith) }

  pub led_as : {A : Type 0} (u v : Account) (is : Items) (h k : WalkState → Walk A) (a : A) → ((s : WalkState) → (k s).end ≡ (h s).end) → Led u v is h a → Led u v is k a
  led_as u v is h k a e p = record {
    falls = p.falls;
    walks = λ s l m. elim (p.walks s l m) [
      | inl c ↦ inl (e s ∙ c)
      | inr r ↦ inr (r.0, e s ∙ r.1, r.2, r.3)
    ];
  }

  -- directed rules, the same with items, and the walk
  pub record Traces {A : Type 0} (P : A → Type 0) (d : Account → Run A) (g : Account → Run (Wrote A)) (h : WalkState → Walk A) : Type 0 where
    pub forgets : (u : Account) → forgotten (g u) ≡ d u
    pub leads : (u : Account) (r : Wrote A) (v : Account) → (g u).end ≡ run.Done r v → P r.value × Led u v r.items h r.value

  pub trace_on : {A B : Type 0} {P : A → Type 0} {Q : B → Type 0} (d : Account → Run A) (g : Account → Run (Wrote A)) (h : WalkState → Walk A)
      (kd : A → Account → Run B) (kg : A → Account → Run (Wrote B)) (kh : A → WalkState → Walk B) →
      Traces P d g h → ((a : A) → P a → Traces Q (kd a) (kg a) (kh a)) →
      Traces Q (λ u. bind (d u) kd) (λ u. write_on (g u) kg) (λ s. walk_on (h s) kh)
  trace_on {Q = Q} d g h kd kg kh p q = record {
    forgets = λ u. on_forgotten kg kd (g u) (d u) (p.forgets u) (λ w v e. (q w.value (p.leads u w v e).0).forgets v);
    leads = λ u r v e.
        (let s = write_both (g u) kg r v e in
        let w = s.0 in
        let m = s.1 in
        let x = s.3.0 in
        let p1 = p.leads u w m s.2 in
        let p2 = (q w.value p1.0).leads m x v s.3.1 in
        subst (λ r. Q r.value × Led u v r.items (λ s. walk_on (h s) kh) r.value) s.3.2
        (p2.0, led_on u m v w.items x.items h kh w.value x.value p1.1 p2.1));
  }

  -- what is weaker holds too
  pub trace_less : {A : Type 0} {P Q : A → Type 0} {d : Account → Run A} {g : Account → Run (Wrote A)} {h : WalkState → Walk A} →
      ((a : A) → P a → Q a) → Traces P d g h → Traces Q d g h
  trace_less f p = record { forgets = p.forgets; leads = λ u r v e. let q = p.leads u r v e in (f r.value q.0, q.1) }

  -- a walk that ends alike
  pub trace_as : {A : Type 0} {P : A → Type 0} {d : Account → Run A} {g : Account → Run (Wrote A)} (h k : WalkState → Walk A) →
      ((s : WalkState) → (k s).end ≡ (h s).end) → Traces P d g h → Traces P d g k
  trace_as h k e p = record { forgets = p.forgets; leads = λ u r v f. let q = p.leads u r v f in (q.0, led_as u v r.items h k r.value e q.1) }

  -- what takes no item is done by the rules
  pub rules_pass : {A : Type 0} (f : Account → Run A) (s : WalkState) (a : A) (x : Account) → (f s.account).end ≡ run.Done a x →
      (by_rules f s).end ≡ Passed a (record { account = x; at = s.at })
  unfolding by_rules
  rules_pass f s a x e = ap (λ r. end_at s.at r) e

  rules_led : {A : Type 0} (f : Account → Run A) → ((j : ℕ) → IsExact j f f) → (u v : Account) (a : A) → (f u).end ≡ run.Done a v → Led u v [] (λ s. by_rules f s) a
  rules_led f x u v a e = record {
    falls = (x 0).falls u a v e;
    walks = λ s l m.
        (let t = (x u.left).alike u a v e s.account m (omega arith) in
        let n : s.account.left + v.left ≡ t.0.left + u.left = t.2 in
        inr (record { account = t.0; at = s.at }, rules_pass f s a t.0 t.1, omega arith, omega arith));
  }

  pub trace_rules : {A : Type 0} {P : A → Type 0} (f : Account → Run A) → ((j : ℕ) → IsExact j f f) →
      ((u : Account) (a : A) (v : Account) → (f u).end ≡ run.Done a v → P a) → Traces P f (λ u. silent f u) (λ s. by_rules f s)
  trace_rules {P = P} f x h = record {
    forgets = λ u. writing_forgotten u (λ n. []) (f u);
    leads = λ u r v e.
        (let q = writing_done u (λ n. []) (f u) r v e in
        (h u r.value v q.0, subst (λ is. Led u v is (λ s. by_rules f s) r.value) (sym q.1) (rules_led f x u v r.value q.0)));
  }

  -- a result: the walk passes
  pub trace_done : {A : Type 0} {P : A → Type 0} (a : A) → P a → Traces P (λ u. run.done a u) (λ u. silent (run.done a) u) (λ s. pass a s)
  trace_done {A} {P} a h = record {
    forgets = λ u. writing_forgotten u (λ n. []) (run.done a u);
    leads = λ u r v e.
        (let q = writing_done u (λ n. []) (run.done a u) r v e in
        let b : a ≡ r.value = done_value q.0 in
        let c : u ≡ v = done_account q.0 in (
          subst (λ x. P x) b h,
          subst (λ is. Led u v is (λ s. pass a s) r.value) (sym q.1)
              (subst (λ x. Led u v [] (λ s. pass a s) x) b (subst (λ y. Led u y [] (λ s. pass a s) a) c (led_pass u a))),
        ));
  }

  -- a refusal leads nowhere
  pub trace_refused : {A : Type 0} {P : A → Type 0} (b : Broken) (h : WalkState → Walk A) → Traces P (λ u. run.refused b u) (λ u. silent (run.refused b) u) h
  trace_refused {A} b h = record {
    forgets = λ u. writing_forgotten u (λ n. []) (run.refused b u);
    leads = λ u r v e. absurd (refused_done (writing_done u (λ n. []) (run.refused {A = A} b u) r v e).0);
  }

  -- an item, and then the rest
  noting_on : {A : Type 0} (x : CertItem) (k : Unit {0} → Account → Run (Wrote A)) (u : Account) → forgotten (write_on (noting x u) k) ≡ forgotten (k tt u)
  unfolding write_on writing_steps
  noting_on x k u = λ i. record { end = before_forgotten (x ∷ []) (k tt u).end i; deep = (k tt u).deep }

  noting_done : {A : Type 0} (x : CertItem) (k : Unit {0} → Account → Run (Wrote A)) (u : Account) (r : Wrote A) (v : Account) → (write_on (noting x u) k).end ≡ run.Done r v →
      (w : Wrote A) × ((k tt u).end ≡ run.Done w v) × (wrote (x ∷ w.items) w.value ≡ r)
  unfolding write_on writing_steps
  noting_done x k u r v h = before_done (x ∷ []) (k tt u).end r v h

  pub trace_item : {A : Type 0} {P : A → Type 0} (x : CertItem) (d : Account → Run A) (g : Account → Run (Wrote A)) (h k : WalkState → Walk A) →
      ((s : WalkState) → slice_get cert s.at ≡ Some x → (k s).end ≡ (h (past s)).end) → Traces P d g h → Traces P d (λ u. write_on (noting x u) (λ _ v. g v)) k
  trace_item {P = P} x d g h k e p = record {
    forgets = λ u. noting_on x (λ _ v. g v) u ∙ p.forgets u;
    leads = λ u r v f.
        (let s = noting_done x (λ _ v. g v) u r v f in
        let q = p.leads u s.0 v s.1 in
        subst (λ r. P r.value × Led u v r.items k r.value) s.2 (q.0, led_item u v x s.0.items h k s.0.value e q.1));
  }

  -- an item alone
  pub trace_noting : {P : Unit {0} → Type 0} (x : CertItem) (k : WalkState → Walk (Unit {0})) → P tt →
      ((s : WalkState) → slice_get cert s.at ≡ Some x → (k s).end ≡ Passed tt (past s)) → Traces P (λ u. run.done tt u) (λ u. noting x u) k
  trace_noting {P} x k h e = record {
    forgets = λ u. writing_forgotten u (λ n. x ∷ []) (run.done tt u);
    leads = λ u r v f.
        (let q = writing_done u (λ n. x ∷ []) (run.done tt u) r v f in
        let c : u ≡ v = done_account q.0 in (
          h,
          subst (λ is. Led u v is k tt) (sym q.1)
              (subst (λ y. Led u y (x ∷ []) k tt) c (led_item u u x [] (λ s. pass tt s) k tt e (led_pass u tt))),
        ));
  }

  -- a unit of the directed rules alone
  pub led_more : {A : Type 0} (u v w : Account) (is : Items) (h : WalkState → Walk A) (a : A) → v.left ≤ u.left → Led v w is h a → Led u w is h a
  led_more u v w is h a l p = record {
    falls = (let f : w.left ≤ v.left = p.falls in omega arith);
    walks = λ s i m. elim (p.walks s i (omega arith)) [
      | inl c ↦ inl c
      | inr r ↦ let n : s.account.left + w.left ≤ r.0.account.left + v.left = r.3 in inr (r.0, r.1, r.2, omega arith)
    ];
  }

  paid_forgotten : {A : Type 0} (n : ℕ) (r : Run (Wrote A)) → forgotten (paid n r) ≡ paid n (forgotten r)
  paid_forgotten zero r = refl
  paid_forgotten (suc n) r = refl

  ticking_forgotten : {A : Type 0} (u : Account) (d : Account → Run A) (g : Account → Run (Wrote A)) → forgotten (g (ticked u)) ≡ d (ticked u) → forgotten (ticking u g) ≡ ticking u d
  unfolding ticking
  ticking_forgotten u d g e = paid_forgotten u.left (g (ticked u)) ∙ ap (λ r. paid u.left r) e

  pub trace_more : {A : Type 0} {P : A → Type 0} (d : Account → Run A) (g : Account → Run (Wrote A)) (h : WalkState → Walk A) → Traces P d g h →
      Traces P (λ u. ticking u d) (λ u. ticking u g) h
  trace_more d g h p = record {
    forgets = λ u. ticking_forgotten u d g (p.forgets (ticked u));
    leads = λ u r v e. (let q = p.leads (ticked u) r v (ticking_done u g r v e) in (q.0, led_more u (ticked u) v r.items h r.value (omega arith) q.1));
  }

  -- a unit of both
  led_tick : {A : Type 0} (u w : Account) (is : Items) (h : WalkState → Walk A) (a : A) → 0 < u.left → Led (ticked u) w is h a → Led u w is (λ s. walk_ticking s h) a
  led_tick u w is h a z p = record {
    falls = (let f : w.left ≤ u.left - 1 = p.falls in omega arith);
    walks = λ s i m.
        (let f : w.left ≤ u.left - 1 = p.falls in
        let y : 0 < s.account.left = omega arith in
        elim (p.walks (tick s) i (omega arith)) [
          | inl c ↦ inl (ticking_walks s h y ∙ c)
          | inr r ↦ let n : s.account.left - 1 + w.left ≤ r.0.account.left + (u.left - 1) = r.3 in inr (r.0, ticking_walks s h y ∙ r.1, r.2, omega arith)
        ]);
  }

  pub trace_tick : {A : Type 0} {P : A → Type 0} (d : Account → Run A) (g : Account → Run (Wrote A)) (h : WalkState → Walk A) → Traces P d g h →
      Traces P (λ u. ticking u d) (λ u. ticking u g) (λ s. walk_ticking s h)
  trace_tick d g h p = record {
    forgets = λ u. ticking_forgotten u d g (p.forgets (ticked u));
    leads = λ u r v e.
        (let q = p.leads (ticked u) r v (ticking_done u g r v e) in (q.0, led_tick u v r.items h r.value (ticking_positive u g r v e) q.1));
  }

  -- a noted use of a rule
  pub trace_noted : {A : Type 0} {P : A → Type 0} (n : ℕ) (d : Account → Run A) (g : Account → Run (Wrote A)) (h : WalkState → Walk A) → Traces P d g h →
      Traces P (λ u. d (noted n u)) (λ u. g (noted n u)) h
  trace_noted n d g h p = record {
    forgets = λ u. p.forgets (noted n u);
    leads = λ u r v e. (let q = p.leads (noted n u) r v e in (q.0, led_more u (noted n u) v r.items h r.value (omega arith) q.1));
  }

  pub conv_falls : (u v : Account) → (conv u).end ≡ run.Done tt v → v.left ≤ u.left
  unfolding conv
  conv_falls u v e =
      let h = ticking_done u (λ v. run.done tt (noted 12 v)) tt v e in
      let l : u.left - 1 ≡ v.left = ap (λ x. x.left) (done_account h) in
      omega arith

  -- the unit of a conversion, of the directed rules alone
  conv_trace : Traces (λ _. Unit {0}) conv (λ u. silent conv u) (λ s. pass tt s)
  conv_trace = record {
    forgets = λ u. writing_forgotten u (λ n. []) (conv u);
    leads = λ u r v e.
        (let q = writing_done u (λ n. []) (conv u) r v e in
        (tt, subst (λ is. Led u v is (λ s. pass tt s) tt) (sym q.1) (led_more u v v [] (λ s. pass tt s) tt (conv_falls u v q.0) (led_pass v tt))));
  }

  -- what always ends with one result: the walk passes
  pub trace_still : {A : Type 0} {P : A → Type 0} (f : Account → Run A) (a : A) → P a → ((u : Account) → (f u).end ≡ run.Done a u) →
      Traces P f (λ u. silent f u) (λ s. pass a s)
  trace_still {A} {P} f a h z = record {
    forgets = λ u. writing_forgotten u (λ n. []) (f u);
    leads = λ u r v e.
        (let q = writing_done u (λ n. []) (f u) r v e in
        let b : a ≡ r.value = done_value (sym (z u) ∙ q.0) in
        let c : u ≡ v = done_account (sym (z u) ∙ q.0) in (
          subst (λ x. P x) b h,
          subst (λ is. Led u v is (λ s. pass a s) r.value) (sym q.1)
              (subst (λ x. Led u v [] (λ s. pass a s) x) b (subst (λ y. Led u y [] (λ s. pass a s) a) c (led_pass u a))),
        ));
  }

  pub passed_on : {A B : Type 0} (a : A) (s : WalkState) (k : A → WalkState → Walk B) → (walk_on (pass a s) k).end ≡ (k a s).end
  unfolding walk_on
  passed_on a s k = refl

  -- what is done by the directed rules alone, and then the rest
  pub trace_skip : {B : Type 0} {P : B → Type 0} (f : Account → Run (Unit {0})) (d : Account → Run B) (g : Account → Run (Wrote B)) (h : WalkState → Walk B) →
      Traces (λ _. Unit {0}) f (λ u. silent f u) (λ s. pass tt s) → Traces P d g h →
      Traces P (λ u. bind (f u) (λ _ v. d v)) (λ u. write_on (silent f u) (λ _ v. g v)) h
  trace_skip f d g h p q =
      trace_as (λ s. walk_on (pass tt s) (λ _ v. h v)) h (λ s. sym (passed_on tt s (λ _ v. h v)))
      (trace_on f (λ u. silent f u) (λ s. pass tt s) (λ _ v. d v) (λ _ v. g v) (λ _ v. h v) p (λ a t. q))

  pub trace_conv : {B : Type 0} {P : B → Type 0} (d : Account → Run B) (g : Account → Run (Wrote B)) (h : WalkState → Walk B) → Traces P d g h →
      Traces P (λ u. bind (conv u) (λ _ v. d v)) (λ u. write_on (silent conv u) (λ _ v. g v)) h
  trace_conv d g h p = trace_skip conv d g h conv_trace p

  pub trace_passing : {B : Type 0} {P : B → Type 0} (b : Bool) (d : Account → Run B) (g : Account → Run (Wrote B)) (h : WalkState → Walk B) → Traces P d g h →
      Traces P (λ u. bind (run.passing b u) (λ _ v. d v)) (λ u. write_on (silent (run.passing b) u) (λ _ v. g v)) h
  trace_passing b d g h p = trace_skip (run.passing b) d g h (trace_still (run.passing b) tt tt (λ u. refl)) p

  -- a test of the directed rules
  pub trace_if : {A : Type 0} {P : A → Type 0} (b : Bool) (d d' : Account → Run A) (g g' : Account → Run (Wrote A)) (h : WalkState → Walk A) →
      (b ≡ true → Traces P d g h) → (b ≡ false → Traces P d' g' h) → Traces P (λ u. if b then d u else d' u) (λ u. if b then g u else g' u) h
  trace_if true d d' g g' h p q = p refl
  trace_if false d d' g g' h p q = q refl

  -- a walk that is crowded
  pub trace_crowded : {A : Type 0} {P : A → Type 0} {d : Account → Run A} {g : Account → Run (Wrote A)} (h k : WalkState → Walk A) →
      ((s : WalkState) → (k s).end ≡ Crowded) → Traces P d g h → Traces P d g k
  trace_crowded h k e p = record {
    forgets = p.forgets;
    leads = λ u r v f. let q = p.leads u r v f in (q.0, record { falls = q.1.falls; walks = λ s l m. inl (e s) });
  }

  -- rules that never come to a result
  pub trace_never : {A : Type 0} {P : A → Type 0} (d : Account → Run A) (g : Account → Run (Wrote A)) (h : WalkState → Walk A) → ((u : Account) → forgotten (g u) ≡ d u) →
      ((u : Account) (r : Wrote A) (v : Account) → (g u).end ≡ run.Done r v → ⊥) → Traces P d g h
  trace_never d g h f n = record { forgets = f; leads = λ u r v e. absurd (n u r v e) }

  -- lists
  pub data AllTrace : List run.Act → List WriteAct → List WalkAct → Type 0 where
    no_trace : AllTrace [] [] []
    a_trace : {d : run.Act} {g : WriteAct} {h : WalkAct} {ds : List run.Act} {gs : List WriteAct} {hs : List WalkAct} → Traces (λ _. Unit {0}) d g h → AllTrace ds gs hs →
        AllTrace (d ∷ ds) (g ∷ gs) (h ∷ hs)

  pub trace_all : {ds : List run.Act} {gs : List WriteAct} {hs : List WalkAct} → AllTrace ds gs hs →
      Traces (λ _. Unit {0}) (λ u. run.run_all ds u) (λ u. write_all gs u) (λ s. walk_all hs s)
  unfolding run.run_all write_all walk_all
  trace_all no_trace = trace_done tt tt
  trace_all (a_trace {d = d} {g = g} {h = h} {ds = ds} {gs = gs} {hs = hs} p ps) =
      trace_on d g h (λ _ v. run.run_all ds v) (λ _ v. write_all gs v) (λ _ v. walk_all hs v) p (λ a t. trace_all ps)
