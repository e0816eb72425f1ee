-- How directed rules lead a certified walk that makes some of their tests later, all at once: what it has not tested yet it owes, with the units
-- that the tests take.
use Rattle.std.proofs.Common.{◌≡◌, ◌∙◌, ℕ, ◌+◌, ◌-◌, ◌≤◌, inl, inr, not, Bool, true, false, if◌then◌else◌, [], ◌++◌, refl, sym, ap, subst, arith}
use Rattle.pc_rules.specs.declared.broken.Broken.{Broken}
use Rattle.pc_rules.specs.declared.meter.Account.{Account}
use Rattle.pc_rules.specs.DirectedLaws.{more}
use Rattle.pc_rules.specs.DirectedRun as run
use Rattle.pc_rules.specs.DirectedRun.{Run, bind}
use Rattle.pc_rules.specs.DirectedPositivity.{both}
use Rattle.pc_rules.proofs.EvaluationRuns.{more_none, more_more}
use Rattle.rule_laws.proofs.Runs.{bind_both, tested, done_value}
use Rattle.cert_rules.specs.Walk.{Items, WalkState, Passed, Walk, pass, walk_on, by_rules}
use Rattle.cert_rules.specs.WalkDeclarations.{walk_positive}
use Rattle.cert_rules.specs.Writing.{Wrote, silent, write_on, forgotten}
use Rattle.cert_rules.proofs.Exact.{done_account, IsExact, bind_done}
use Rattle.cert_rules.proofs.Traces.{write_both, writing_done, writing_forgotten, on_forgotten, on_passed, passed_on, rules_pass, Led, led_on, led_as, Traces}

-- a test that takes n units and is true, wherever there are as many
abbrev pub Holds : ℕ → (Account → Run Bool) → Type 0
Holds n t = (w : Account) → n ≤ w.left → (x : Account) × ((t w).end ≡ run.Done true x) × (w.left ≡ n + x.left)

holds_done : Holds 0 (λ u. run.done true u)
holds_done w l = let z : w.left ≡ 0 + w.left = omega arith in (w, refl, z)

-- what is true once is true wherever there are as many units as it took
holds_exact : (t : Account → Run Bool) → ((j : ℕ) → IsExact j t t) → (u v : Account) → (t u).end ≡ run.Done true v → Holds (u.left - v.left) t
holds_exact t x u v e w l =
    let f : v.left ≤ u.left = (x 0).falls u true v e in
    let m : u.left ≤ w.left + v.left = omega arith in
    let p = (x u.left).alike u true v e w m (omega arith) in
    let n : w.left + v.left ≡ p.0.left + u.left = p.2 in
    (p.0, p.1, omega arith)

-- one after the other
holds_both : (n m : ℕ) (t t' : Account → Run Bool) → Holds n t → Holds m t' → Holds (n + m) (λ u. both (t u) t')
holds_both n m t t' p q w l =
    let r = p w (omega arith) in
    let a : w.left ≡ n + r.0.left = r.2 in
    let s = q r.0 (omega arith) in
    let b : r.0.left ≡ m + s.0.left = s.2 in
    (s.0, bind_done (t w) (λ b v. if b then t' v else run.done false v) true r.0 r.1 s.1, omega arith)

after_true : (t : Account → Run Bool) (n : ℕ) → Holds n (λ u. both (run.done true u) t) → Holds n t
unfolding bind
after_true t n p = p

true_end : (b : Bool) (u x : Account) → (if b then run.done true u else run.done false u).end ≡ run.Done true x → run.Done b u ≡ run.Done true x
true_end true u x h = h
true_end false u x h = h

then_true : (t : Account → Run Bool) (n : ℕ) → Holds n (λ u. both (t u) (λ v. run.done true v)) → Holds n t
then_true t n p w l =
    let r = p w l in
    let s = bind_both (t w) (λ b v. if b then run.done true v else run.done false v) true r.0 r.1 in
    (r.0, s.2 ∙ true_end s.0 s.1 r.0 s.3, r.2)

module _ (cert : Items) where
  -- with n units more on both sides
  led_later : {A : Type 0} (n : ℕ) (u v : Account) (is : Items) (h : WalkState → Walk A) (a : A) → Led cert u v is h a → Led cert (more n u) (more n v) is h a
  led_later n u v is h a p = record {
    falls = (let f : v.left ≤ u.left = p.falls in let z : v.left + n ≤ u.left + n = omega arith in z);
    walks = λ s l m.
        (let m' : u.left + n ≤ s.account.left + (v.left + n) = m in
        elim (p.walks s l (omega arith)) [
          | inl c ↦ inl c
          | inr r ↦
              let o : s.account.left + v.left ≤ r.0.account.left + u.left = r.3 in
              let z : s.account.left + (v.left + n) ≤ r.0.account.left + (u.left + n) = omega arith in
              inr (r.0, r.1, r.2, z)
        ]);
  }

  -- one after the other: what both owe
  led_owing : {A B : Type 0} (n m : ℕ) (u v w : Account) (is js : Items) (h : WalkState → Walk A) (k : A → WalkState → Walk B) (a : A) (b : B) → Led cert u (more n v) is h a →
      Led cert v (more m w) js (k a) b → Led cert u (more (n + m) w) (is ++ js) (λ s. walk_on (h s) k) b
  led_owing n m u v w is js h k a b p q =
      subst (λ x. Led cert u x (is ++ js) (λ s. walk_on (h s) k) b) (more_more n m w)
      (led_on cert u (more n v) (more n (more m w)) is js h k a b p (led_later n v (more m w) js (k a) b q))

  -- the walk is led, and owes a test that holds
  abbrev pub Owes : {A : Type 0} → (Account → Run Bool) → Account → Account → Items → (WalkState → Walk A) → A → Type 0
  Owes t u v is h a = (n : ℕ) × Holds n t × Led cert u (more n v) is h a

  -- directed rules that make a test, the same with items, and the walk that does not make it
  pub record Defers {A : Type 0} (P : A → Type 0) (t : Account → Run Bool) (d : Account → Run A) (g : Account → Run (Wrote A)) (h : WalkState → Walk A) : Type 0 where
    pub forgets : (u : Account) → forgotten (g u) ≡ d u
    pub leads : (u : Account) (r : Wrote A) (v : Account) → (g u).end ≡ run.Done r v → P r.value × Owes t u v r.items h r.value

  -- rules without such a test
  pub defer_none : {A : Type 0} {P : A → Type 0} {d : Account → Run A} {g : Account → Run (Wrote A)} {h : WalkState → Walk A} → Traces cert P d g h →
      Defers P (λ u. run.done true u) d g h
  defer_none {h = h} p = record {
    forgets = p.forgets;
    leads = λ u r v e. (let q = p.leads u r v e in (q.0, (0, holds_done, subst (λ x. Led cert u x r.items h r.value) (more_none v) q.1)));
  }

  -- another test that takes the same units
  defer_as : {A : Type 0} {P : A → Type 0} {d : Account → Run A} {g : Account → Run (Wrote A)} {h : WalkState → Walk A} (t t' : Account → Run Bool) →
      ((n : ℕ) → Holds n t → Holds n t') → Defers P t d g h → Defers P t' d g h
  defer_as t t' f p = record {
    forgets = p.forgets;
    leads = λ u r v e. (let q = p.leads u r v e in (q.0, (q.1.0, f q.1.0 q.1.1, q.1.2)));
  }

  -- a walk that ends alike
  defer_walk : {A : Type 0} {P : A → Type 0} {d : Account → Run A} {g : Account → Run (Wrote A)} (t : Account → Run Bool) (h k : WalkState → Walk A) →
      ((s : WalkState) → (k s).end ≡ (h s).end) → Defers P t d g h → Defers P t d g k
  defer_walk t h k e p = record {
    forgets = p.forgets;
    leads = λ u r v f. (let q = p.leads u r v f in (q.0, (q.1.0, q.1.1, led_as cert u (more q.1.0 v) r.items h k r.value e q.1.2)));
  }

  pub defer_on : {A B : Type 0} {P : A → Type 0} {Q : B → Type 0} (t t' : Account → Run Bool) (d : Account → Run A) (g : Account → Run (Wrote A)) (h : WalkState → Walk A)
      (kd : A → Account → Run B) (kg : A → Account → Run (Wrote B)) (kh : A → WalkState → Walk B) →
      Defers P t d g h → ((a : A) → P a → Defers Q t' (kd a) (kg a) (kh a)) →
      Defers Q (λ u. both (t u) t') (λ u. bind (d u) kd) (λ u. write_on (g u) kg) (λ s. walk_on (h s) kh)
  defer_on {Q = Q} t t' d g h kd kg kh p q = record {
    forgets = λ u. on_forgotten kg kd (g u) (d u) (p.forgets u) (λ w v e. (q w.value (p.leads u w v e).0).forgets v);
    leads = λ u r v e.
        (let s = write_both (g u) kg r v e in
        let w = s.0 in
        let m = s.1 in
        let x = s.3.0 in
        let p1 = p.leads u w m s.2 in
        let p2 = (q w.value p1.0).leads m x v s.3.1 in
        let n1 : ℕ = p1.1.0 in
        let n2 : ℕ = p2.1.0 in
        subst (λ r. Q r.value × Owes (λ u. both (t u) t') u v r.items (λ s. walk_on (h s) kh) r.value) s.3.2 (
          p2.0,
          (n1 + n2, holds_both n1 n2 t t' p1.1.1 p2.1.1, led_owing n1 n2 u m v w.items x.items h kh w.value x.value p1.1.2 p2.1.2),
        ));
  }

  -- rules without a test, and then some with one
  pub defer_first : {A B : Type 0} {P : A → Type 0} {Q : B → Type 0} (t : Account → Run Bool) (d : Account → Run A) (g : Account → Run (Wrote A)) (h : WalkState → Walk A)
      (kd : A → Account → Run B) (kg : A → Account → Run (Wrote B)) (kh : A → WalkState → Walk B) →
      Traces cert P d g h → ((a : A) → P a → Defers Q t (kd a) (kg a) (kh a)) →
      Defers Q t (λ u. bind (d u) kd) (λ u. write_on (g u) kg) (λ s. walk_on (h s) kh)
  defer_first t d g h kd kg kh p q =
      defer_as (λ u. both (run.done true u) t) t (after_true t) (defer_on (λ u. run.done true u) t d g h kd kg kh (defer_none p) q)

  -- rules with a test, and then some without one
  pub defer_last : {A B : Type 0} {P : A → Type 0} {Q : B → Type 0} (t : Account → Run Bool) (d : Account → Run A) (g : Account → Run (Wrote A)) (h : WalkState → Walk A)
      (kd : A → Account → Run B) (kg : A → Account → Run (Wrote B)) (kh : A → WalkState → Walk B) →
      Defers P t d g h → ((a : A) → P a → Traces cert Q (kd a) (kg a) (kh a)) →
      Defers Q t (λ u. bind (d u) kd) (λ u. write_on (g u) kg) (λ s. walk_on (h s) kh)
  defer_last t d g h kd kg kh p q =
      defer_as (λ u. both (t u) (λ v. run.done true v)) t (then_true t) (defer_on t (λ u. run.done true u) d g h kd kg kh p (λ a e. defer_none (q a e)))

  -- the rules that make the test alone, where the walk does nothing
  abbrev pub tested_by : (Account → Run Bool) → Broken → Account → Run (Unit {0})
  tested_by t x u = bind (t u) (λ b v. if b then run.done tt v else run.refused x v)

  led_still : (u v : Account) → v.left ≡ u.left → Led cert u v [] (λ s. pass (tt {0}) s) (tt {0})
  led_still u v e = record { falls = omega arith; walks = λ s l m. inr (s, refl, omega arith, omega arith) }

  defer_test : (t : Account → Run Bool) → ((j : ℕ) → IsExact j t t) → (x : Broken) →
      Defers (λ _. Unit {0}) t (λ u. tested_by t x u) (λ u. silent (tested_by t x) u) (λ s. pass tt s)
  defer_test t exact x = record {
    forgets = λ u. writing_forgotten u (λ n. []) (tested_by t x u);
    leads = λ u r v e.
        (let q = writing_done u (λ n. []) (tested_by t x u) r v e in
        let s = bind_both (t u) (λ b v. if b then run.done tt v else run.refused x v) r.value v q.0 in
        let y = tested s.0 (run.done tt s.1) x s.1 r.value v s.3 in
        let z : s.1 ≡ v = done_account y.1 in
        let h : (t u).end ≡ run.Done true v = s.2 ∙ (λ i. run.Done (y.0 i) (z i)) in
        let f : v.left ≤ u.left = (exact 0).falls u true v h in
        let l : v.left + (u.left - v.left) ≡ u.left = omega arith in
        (tt, (u.left - v.left, holds_exact t exact u v h, subst (λ is. Led cert u (more (u.left - v.left) v) is (λ s. pass (tt {0}) s) (tt {0})) (sym q.1) (led_still u (more (u.left - v.left) v) l))));
  }

  -- a test, which the walk does not make there, and then the rest
  pub defer_skip : {B : Type 0} {P : B → Type 0} (t t' : Account → Run Bool) → ((j : ℕ) → IsExact j t t) → (x : Broken) (d : Account → Run B) (g : Account → Run (Wrote B)) (h : WalkState → Walk B) →
      Defers P t' d g h → Defers P (λ u. both (t u) t') (λ u. bind (tested_by t x u) (λ _ v. d v)) (λ u. write_on (silent (tested_by t x) u) (λ _ v. g v)) h
  defer_skip t t' exact x d g h q =
      defer_walk (λ u. both (t u) t') (λ s. walk_on (pass tt s) (λ _ v. h v)) h (λ s. sym (passed_on cert tt s (λ _ v. h v)))
      (defer_on t t' (λ u. tested_by t x u) (λ u. silent (tested_by t x) u) (λ s. pass tt s) (λ _ v. d v) (λ _ v. g v) (λ _ v. h v) (defer_test t exact x) (λ a e. q))

  -- a test without units that is known to be true
  pub defer_known : {A : Type 0} {d : Account → Run A} {g : Account → Run (Wrote A)} {h : WalkState → Walk A} (b : Bool) → Traces cert (λ _. b ≡ false) d g h →
      Defers (λ _. Unit {0}) (λ u. run.done (not b) u) d g h
  defer_known {h = h} b p = record {
    forgets = p.forgets;
    leads = λ u r v e.
        (let q = p.leads u r v e in
        let t : Holds 0 (λ u. run.done (not b) u) = λ w l. (let z : w.left ≡ 0 + w.left = omega arith in (w, ap (λ x. run.Done (not x) w) q.0, z)) in
        (tt, (0, t, subst (λ x. Led cert u x r.items h r.value) (more_none v) q.1)));
  }

  -- the walk makes the test at last
  abbrev pub walk_settled : {A B : Type 0} → (Account → Run Bool) → (A → B) → A → WalkState → Walk B
  walk_settled t f a s = walk_on (by_rules t s) (λ yes x. walk_on (walk_positive yes x) (λ _ y. pass (f a) y))

  settled_passes : {A B : Type 0} (t : Account → Run Bool) (f : A → B) (a : A) (s : WalkState) (x : Account) → (t s.account).end ≡ run.Done true x →
      (walk_settled t f a s).end ≡ Passed (f a) (record { account = x; at = s.at })
  settled_passes {B = B} t f a s x e =
      let k : Bool → WalkState → Walk B = λ yes x. walk_on (walk_positive yes x) (λ _ y. pass (f a) y) in
      let o : WalkState = record { account = x; at = s.at } in
      on_passed (by_rules t s) k true o (rules_pass cert t s true x e) ∙ passed_on cert tt o (λ _ y. pass (f a) y)

  led_settled : {A B : Type 0} (t : Account → Run Bool) (f : A → B) (a : A) (n : ℕ) (m : Account) → Holds n t → Led cert (more n m) m [] (walk_settled t f a) (f a)
  led_settled t f a n m p = record {
    falls = (let z : m.left ≤ m.left + n = omega arith in z);
    walks = λ s l k.
        (let k' : m.left + n ≤ s.account.left + m.left = k in
        let r = p s.account (omega arith) in
        let e : s.account.left ≡ n + r.0.left = r.2 in
        let z : s.account.left + m.left ≤ r.0.left + (m.left + n) = omega arith in
        inr (record { account = r.0; at = s.at }, settled_passes t f a s r.0 r.1, omega arith, z));
  }

  pub trace_settled : {A B : Type 0} {P : A → Type 0} (t : Account → Run Bool) (f : A → B) (d : Account → Run A) (g : Account → Run (Wrote A)) (h : WalkState → Walk A) →
      Defers P t d g h → Traces cert (λ _. Unit {0}) (λ u. bind (d u) (λ a v. run.done (f a) v)) (λ u. write_on (g u) (λ a v. silent (run.done (f a)) v))
      (λ s. walk_on (h s) (walk_settled t f))
  trace_settled {B = B} t f d g h p = record {
    forgets = λ u. on_forgotten (λ a v. silent (run.done (f a)) v) (λ a v. run.done (f a) v) (g u) (d u) (p.forgets u)
        (λ w v e. writing_forgotten v (λ n. []) (run.done (f w.value) v));
    leads = λ u r v e.
        (let s = write_both (g u) (λ a v. silent (run.done (f a)) v) r v e in
        let w = s.0 in
        let m = s.1 in
        let x = s.3.0 in
        let p1 = p.leads u w m s.2 in
        let q = writing_done m (λ n. []) (run.done (f w.value) m) x v s.3.1 in
        let b : f w.value ≡ x.value = done_value q.0 in
        let c : m ≡ v = done_account q.0 in
        let k : WalkState → Walk B = λ s. walk_on (h s) (walk_settled t f) in
        let one : Led cert u m (w.items ++ []) k (f w.value) =
        led_on cert u (more p1.1.0 m) m w.items [] h (walk_settled t f) w.value (f w.value) p1.1.2 (led_settled t f w.value p1.1.0 m p1.1.1) in
        let two : Led cert u v (w.items ++ x.items) k x.value =
        subst (λ y. Led cert u y (w.items ++ x.items) k x.value) c
        (subst (λ a. Led cert u m (w.items ++ x.items) k a) b (subst (λ is. Led cert u m (w.items ++ is) k (f w.value)) (sym q.1) one)) in
        subst (λ r. Unit {0} × Led cert u v r.items k r.value) s.3.2 (tt, two));
  }
