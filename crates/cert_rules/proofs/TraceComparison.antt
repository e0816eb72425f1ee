-- What directed comparison writes of any two terms is accepted as a script.
use Rattle.std.proofs.Common.{◌≡◌, ◌∙◌, ℕ, zero, suc, ◌+◌, ◌-◌, ◌≤◌, inl, Bool, [], ◌++◌, refl, sym, ap, subst, arith}
use Rattle.std.proofs.lemmas.Bool.{or_left}
use Rattle.pc_terms.specs.Syntax.{Term}
use Rattle.pc_rules.specs.declared.meter.Account.{Account}
use Rattle.calculus_rules.specs.Environment.{Env}
use Rattle.calculus_rules.specs.Context.{Values, values}
use Rattle.calculus_rules.specs.Same.{same}
use Rattle.pc_rules.specs.DirectedRun as run
use Rattle.pc_rules.specs.DirectedRun.{Run, bind, ticking, too_nested}
use Rattle.pc_rules.specs.DirectedWeakHead.{whnf}
use Rattle.pc_rules.specs.DirectedComparison.{Test, Comparison, pair, entered, compare}
use Rattle.pc_rules.specs.WellCounted.{HasCountedDeclarations}
use Rattle.rule_laws.proofs.Runs.{ticking_done, nested_done}
use Rattle.rule_laws.proofs.KeepCounts.{steps_counted}
use Rattle.cert_rules.specs.declared.item.CertItem.{CertItem}
use Rattle.cert_rules.specs.declared.item.CertItem.TheVariants.{Left, Right}
use Rattle.cert_rules.specs.Walk.{Items, WalkState, Walk, past, walk_on}
use Rattle.cert_rules.specs.WalkSteps.{walk_steps}
use Rattle.cert_rules.specs.Scripts.{script}
use Rattle.cert_rules.specs.Writing.{Wrote, WriteAct, write_on, forgotten}
use Rattle.cert_rules.specs.MakingTyping.{MakeComparison, side, make_side, make_pair, make_entered, make_compare}
use Rattle.cert_rules.proofs.ExactGuard.{Reach}
use Rattle.cert_rules.proofs.Traces.{write_both, writing_done, writing_forgotten, on_forgotten, Led, led_on, led_item, led_more, Traces, trace_more, trace_if, trace_never}
use Rattle.cert_rules.proofs.ReachedSteps.{reach_still, reach_steps, steps_led, number_taken}
use Rattle.cert_rules.proofs.TraceScripts.{script_takes, script_crowded, trace_same, Scripted}
use Rattle.cert_rules.proofs.TraceSpines.{pair_trace}

nested_paid : (n : ℕ) → forgotten (run.paid n (too_nested {A = Wrote (Unit {0})})) ≡ run.paid n too_nested
nested_paid zero = refl
nested_paid (suc n) = refl

module _ (cert : Items) (E : Env) (q : Test) (w : HasCountedDeclarations E) (V : Values) where
  -- the steps of the left side, and what follows
  left_led : (equal : Bool) (a b x : Term) (n : ℕ) (u m1 v : Account) (is : Items) → Reach E V n a x → u.left ≡ n + m1.left →
      ((m : ℕ) → Led cert m1 v is (λ s. script cert E q m V equal x b s) tt) → (m : ℕ) → Led cert u v (side Left n ++ is) (λ s. script cert E q m V equal a b s) tt
  left_led equal a b x zero u m1 v is p z h m =
      led_more cert u m1 v is (λ s. script cert E q m V equal a b s) tt (omega arith)
      (subst (λ y. Led cert m1 v is (λ s. script cert E q m V equal y b s) tt) (sym (reach_still E V 0 a x p refl)) (h m))
  left_led equal a b x (suc n) u m1 v is p z h zero = record {
    falls = (let f : v.left ≤ m1.left = (h 0).falls in omega arith);
    walks = λ s l k. inl (script_crowded cert E q V equal a b s);
  }
  left_led equal a b x (suc n) u m1 v is p z h (suc m) =
      let go : Term → WalkState → Walk (Unit {0}) = λ x v. script cert E q m V equal x b v in
      led_item cert u v (Left (suc n)) is (λ s. walk_on (walk_steps E V (s.at - 1) (suc n) a s) go) (λ s. script cert E q (suc m) V equal a b s) tt
      (λ s e. script_takes cert E q m V equal a b s (Left (suc n)) e
      ∙ (let i : s.at ≡ s.at + 1 - 1 = omega arith in ap (λ i. (walk_on (walk_steps E V i (suc n) a (past s)) go).end) i))
      (led_on cert u m1 v [] is (λ s. walk_steps E V (s.at - 1) (suc n) a s) go x tt (steps_led E V cert (λ s. s.at - 1) (suc n) a x u m1 p z) (h m))

  right_led : (equal : Bool) (a b y : Term) (n : ℕ) (u m1 v : Account) (is : Items) → Reach E V n b y → u.left ≡ n + m1.left →
      ((m : ℕ) → Led cert m1 v is (λ s. script cert E q m V equal a y s) tt) → (m : ℕ) → Led cert u v (side Right n ++ is) (λ s. script cert E q m V equal a b s) tt
  right_led equal a b y zero u m1 v is p z h m =
      led_more cert u m1 v is (λ s. script cert E q m V equal a b s) tt (omega arith)
      (subst (λ x. Led cert m1 v is (λ s. script cert E q m V equal a x s) tt) (sym (reach_still E V 0 b y p refl)) (h m))
  right_led equal a b y (suc n) u m1 v is p z h zero = record {
    falls = (let f : v.left ≤ m1.left = (h 0).falls in omega arith);
    walks = λ s l k. inl (script_crowded cert E q V equal a b s);
  }
  right_led equal a b y (suc n) u m1 v is p z h (suc m) =
      let go : Term → WalkState → Walk (Unit {0}) = λ y v. script cert E q m V equal a y v in
      led_item cert u v (Right (suc n)) is (λ s. walk_on (walk_steps E V (s.at - 1) (suc n) b s) go) (λ s. script cert E q (suc m) V equal a b s) tt
      (λ s e. script_takes cert E q m V equal a b s (Right (suc n)) e
      ∙ (let i : s.at ≡ s.at + 1 - 1 = omega arith in ap (λ i. (walk_on (walk_steps E V i (suc n) b (past s)) go).end) i))
      (led_on cert u m1 v [] is (λ s. walk_steps E V (s.at - 1) (suc n) b s) go y tt (steps_led E V cert (λ s. s.at - 1) (suc n) b y u m1 p z) (h m))

  -- a reduction of a side, the same with items, and what follows
  module _ (item : ℕ → CertItem) (t : Term) (kd : Term → Account → Run (Unit {0})) (kg : Term → WriteAct) (h : ℕ → WalkState → Walk (Unit {0})) (k : Term → ℕ → WalkState → Walk (Unit {0}))
      (led : (x : Term) (n : ℕ) (u m1 v : Account) (is : Items) → Reach E V n t x → u.left ≡ n + m1.left → ((m : ℕ) → Led cert m1 v is (k x m) tt) → (m : ℕ) →
      Led cert u v (side item n ++ is) (h m) tt)
      (rest : (x : Term) (n : ℕ) → Reach E V n t x → (m : ℕ) → Traces cert (λ _. Unit {0}) (kd x) (kg x) (k x m)) where
    pub side_trace : (m : ℕ) → Traces cert (λ _. Unit {0}) (λ u. bind (whnf E V t u) kd) (λ u. write_on (make_side item E V t u) kg) (h m)
    side_trace m = record {
      forgets = λ u. on_forgotten kg kd (make_side item E V t u) (whnf E V t u) (writing_forgotten u (side item) (whnf E V t u))
          (λ y v e. let d = writing_done u (side item) (whnf E V t u) y v e in let r = number_taken E V cert t y.value u v d.0 in (rest y.value r.0 r.1 0).forgets v);
      leads = λ u r v e.
          (let s = write_both (make_side item E V t u) kg r v e in
          let y = s.0 in
          let m1 = s.1 in
          let x = s.3.0 in
          let d = writing_done u (side item) (whnf E V t u) y m1 s.2 in
          let c = number_taken E V cert t y.value u m1 d.0 in
          let n : ℕ = c.0 in
          let is : y.items ≡ side item n = d.1 ∙ ap (λ k. side item k) c.3 in
          let p : (m : ℕ) → Led cert m1 v x.items (k y.value m) tt = λ m. ((rest y.value n c.1 m).leads m1 x v s.3.1).1 in
          (tt, subst (λ xs. Led cert u v xs (h m) tt) (ap (λ xs. xs ++ x.items) (sym is) ∙ ap (λ z. z.items) s.3.2) (led y.value n u m1 v x.items c.1 c.2 p m)));
    }

module _ (cert : Items) (E : Env) (q : Test) (w : HasCountedDeclarations E) where
  entered_trace : (cmp : Comparison) (mk : MakeComparison) → Scripted cert E q cmp mk → Scripted cert E q (entered E q cmp) (make_entered E q mk)
  entered_trace cmp mk sc c equal a b vs ka kb m =
      let V : Values = values c in
      trace_if cert (same a b) _ _ _ _ _ (λ e. trace_same cert E q V equal a b (or_left (same a b) _ e) m)
      (λ e. side_trace cert E q w V Left a (λ x v. bind (whnf E V b v) (λ y w. pair E q cmp c equal x y w)) (λ x v. write_on (make_side Right E V b v) (λ y w. make_pair E q mk c equal x y w))
      (λ m s. script cert E q m V equal a b s) (λ x m s. script cert E q m V equal x b s)
      (λ x n u m1 v is p z h m. left_led cert E q w V equal a b x n u m1 v is p z h m)
      (λ x n p m. side_trace cert E q w V Right b (λ y w. pair E q cmp c equal x y w) (λ y w. make_pair E q mk c equal x y w) (λ m s. script cert E q m V equal x b s)
      (λ y m s. script cert E q m V equal x y s) (λ y n u m1 v is p z h m. right_led cert E q w V equal x b y n u m1 v is p z h m)
      (λ y k r m. pair_trace cert E q cmp mk sc c vs equal x y (steps_counted E w vs (reach_steps E V p) ka) (steps_counted E w vs (reach_steps E V r) kb) m) m) m)

  nested_forgotten : (u : Account) → forgotten (ticking u (λ v. too_nested {A = Wrote (Unit {0})})) ≡ ticking u (λ v. too_nested)
  unfolding ticking
  nested_forgotten u = nested_paid u.left

  pub compare_trace : (n : ℕ) → Scripted cert E q (compare E q n) (make_compare E q n)
  unfolding compare make_compare
  compare_trace zero c equal a b vs ka kb m =
      trace_never cert _ _ _ nested_forgotten (λ u r v e. nested_done (ticking_done u (λ v. too_nested) r v e))
  compare_trace (suc n) c equal a b vs ka kb m =
      trace_more cert _ _ _ (entered_trace (compare E q n) (make_compare E q n) (compare_trace n) c equal a b vs ka kb m)
