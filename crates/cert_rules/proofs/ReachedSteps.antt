-- What the certified walk does along the steps of a weak-head reduction.
use Rattle.std.proofs.Common.{◌≡◌, ◌∙◌, ℕ, ◌+◌, ◌-◌, ◌≤◌, ◌<◌, inl, inr, true, false, [], ◌∷◌, ◌++◌, length, Some, None, refl, sym, ap, subst, arith, slice_get}
use Rattle.pc_terms.specs.Syntax.{Term}
use Rattle.pc_rules.specs.declared.meter.Account.{Account}
use Rattle.calculus_rules.specs.Environment.{Env}
use Rattle.calculus_rules.specs.Context.{Values}
use Rattle.calculus_rules.specs.Same.{same}
use Rattle.calculus_rules.specs.WeakHead.{WeakSteps, no_step, then_step}
use Rattle.pc_rules.specs.DirectedRun as run
use Rattle.pc_rules.specs.DirectedRun.{Run, bind, is_beyond}
use Rattle.pc_rules.specs.DirectedWeakHead.{weak_next, whnf}
use Rattle.pc_rules.proofs.WeakNext.{weak_next_found, none_some}
use Rattle.pc_rules.proofs.SameTrees.{same_is, same_itself, not_true}
use Rattle.cert_rules.specs.declared.item.CertItem.TheVariants.{Number}
use Rattle.cert_rules.specs.Walk.{Items, WalkState, Passed, Walk, pass, past, tick, walk_on}
use Rattle.cert_rules.specs.WalkSteps.{stepped, walk_steps, number_at, Reduced, reduced}
use Rattle.cert_rules.specs.Writing.{Wrote, wrote, write_on}
use Rattle.cert_rules.specs.MakingTyping.{make_whnf}
use Rattle.cert_rules.proofs.ExactGuard.{Reach, arrived, onward, whnf_reach}
use Rattle.cert_rules.proofs.Traces.{write_both, writing_done, writing_forgotten, on_forgotten, on_passed, Lies, Goes, Led, Traces, paid_walk_goes}

module _ (E : Env) (V : Values) where
  pub reach_walks : (i n : ℕ) (t W : Term) (s : WalkState) → Reach E V n t W → n ≤ s.account.left →
      (x : WalkState) × ((walk_steps E V i n t s).end ≡ Passed W x) × (x.at ≡ s.at) × (s.account.left ≡ n + x.account.left)
  unfolding walk_steps
  reach_walks i _ t _ s (arrived e) l = let z : s.account.left ≡ 0 + s.account.left = omega arith in (s, refl, refl, z)
  reach_walks i _ t W s (onward {n = n} {x = x} e p) l =
      let r = reach_walks i n x W (tick s) p (omega arith) in
      let d : s.account.left - 1 ≡ n + r.0.account.left = r.3 in (
        r.0,
        paid_walk_goes s.account.left (stepped i (weak_next E V t) (tick s) (λ x. walk_steps E V i n x (tick s))) (omega arith)
            ∙ ap (λ o. (stepped i o (tick s) (λ x. walk_steps E V i n x (tick s))).end) e ∙ r.1,
        r.2,
        omega arith,
      )

  pub reach_steps : {n : ℕ} {t W : Term} → Reach E V n t W → WeakSteps E V t W
  reach_steps (arrived e) = no_step
  reach_steps (onward {t = t} {x = x} e p) = then_step (weak_next_found E V t x e) (reach_steps p)

  reach_ends : {n : ℕ} {t W : Term} → Reach E V n t W → weak_next E V W ≡ None
  reach_ends (arrived e) = e
  reach_ends (onward e p) = reach_ends p

  -- without a step it is the same, and after one it isn't
  pub reach_same : (n : ℕ) (t W : Term) → Reach E V n t W → n ≡ 0 → same t W ≡ true
  reach_same _ t _ (arrived e) z = same_itself t
  reach_same _ t W (onward e p) z = absurd (omega arith)

  pub reach_still : (n : ℕ) (t W : Term) → Reach E V n t W → n ≡ 0 → t ≡ W
  reach_still _ t _ (arrived e) z = refl
  reach_still _ t W (onward e p) z = absurd (omega arith)

  reach_other_at : (n : ℕ) (t W : Term) → Reach E V n t W → 0 < n → t ≡ W → ⊥
  reach_other_at _ t _ (arrived e) z q = absurd (omega arith)
  reach_other_at _ t W (onward e p) z q = none_some (sym (reach_ends p) ∙ ap (λ x. weak_next E V x) (sym q) ∙ e)

  pub reach_other : (n : ℕ) (t W : Term) → Reach E V n t W → 0 < n → same t W ≡ false
  reach_other n t W p z = not_true (same t W) (λ e. reach_other_at n t W p z (same_is t W e))

  module _ (cert : Items) where
    pub steps_led : (f : WalkState → ℕ) (n : ℕ) (t W : Term) (u v : Account) → Reach E V n t W → u.left ≡ n + v.left → Led cert u v [] (λ s. walk_steps E V (f s) n t s) W
    steps_led f n t W u v p e = record {
      falls = omega arith;
      walks = λ s l m.
          (let r = reach_walks (f s) n t W s p (omega arith) in
          let d : s.account.left ≡ n + r.0.account.left = r.3 in
          let z : r.0.at ≡ s.at = r.2 in
          inr (r.0, r.1, omega arith, omega arith));
    }

    -- the number of the steps, as an item
    at_number : (n : ℕ) (s : WalkState) → slice_get cert s.at ≡ Some (Number n) → (number_at (slice_get cert s.at) s).end ≡ Passed n (past s)
    at_number n s e = ap (λ o. (number_at o s).end) e

    reduced_passes : (n : ℕ) (t W : Term) (s : WalkState) → Reach E V n t W → n ≤ s.account.left → slice_get cert s.at ≡ Some (Number n) →
        (x : WalkState) × ((reduced cert E V t s).end ≡ Passed (record { item = s.at; count = n; term = W }) x) × (x.at ≡ s.at + 1) × (s.account.left ≡ n + x.account.left)
    unfolding reduced
    reduced_passes n t W s p l e =
        let r = reach_walks s.at n t W (past s) p l in
        let k2 : ℕ → Term → WalkState → Walk Reduced = λ n W w. pass (record { item = s.at; count = n; term = W }) w in
        let k1 : ℕ → WalkState → Walk Reduced = λ n v. walk_on (walk_steps E V s.at n t v) (k2 n) in (
          r.0,
          on_passed (number_at (slice_get cert s.at) s) k1 n (past s) (at_number n s e) ∙ on_passed (walk_steps E V s.at n t (past s)) (k2 n) W r.0 r.1,
          r.2,
          r.3,
        )

    module _ {B : Type 0} (n : ℕ) (t W : Term) (u v w : Account) (js : Items) (kh : ℕ → ℕ → Term → WalkState → Walk B) (b : B) (p : Reach E V n t W) (z : u.left ≡ n + v.left)
        (q : (i : ℕ) → Led cert v w js (kh i n W) b) where
      reduced_walks : (s : WalkState) → Lies cert s.at (Number n ∷ js) → u.left ≤ s.account.left + w.left →
          Goes cert (walk_on (reduced cert E V t s) (λ r x. kh r.item r.count r.term x)) b (s.at + length (Number n ∷ js)) (s.account.left + w.left) u.left
      reduced_walks s l m =
          let f : w.left ≤ v.left = (q 0).falls in
          let r = reduced_passes n t W s p (omega arith) l.0 in
          let x : WalkState = r.0 in
          let at : x.at ≡ s.at + 1 = r.2 in
          let d : s.account.left ≡ n + x.account.left = r.3 in
          let k1 : Reduced → WalkState → Walk B = λ r x. kh r.item r.count r.term x in
          let e = on_passed (reduced cert E V t s) k1 (record { item = s.at; count = n; term = W }) x r.1 in
          elim ((q s.at).walks x (subst (λ i. Lies cert i js) (sym at) l.1) (omega arith)) [
            | inl c ↦ inl (e ∙ c)
            | inr g ↦
                let o : x.account.left + w.left ≤ g.0.account.left + v.left = g.3 in
                let y : g.0.at ≡ x.at + length js = g.2 in
                inr (g.0, e ∙ g.1, omega arith, omega arith)
          ]

      pub reduced_led : Led cert u w (Number n ∷ js) (λ s. walk_on (reduced cert E V t s) (λ r x. kh r.item r.count r.term x)) b
      reduced_led = record { falls = (let f : w.left ≤ v.left = (q 0).falls in omega arith); walks = reduced_walks }

    -- the number of steps that a reduction took
    pub number_taken : (t W : Term) (u v : Account) → (whnf E V t u).end ≡ run.Done W v → (n : ℕ) × Reach E V n t W × (u.left ≡ n + v.left) × (u.left - v.left ≡ n)
    number_taken t W u v h =
        let r = whnf_reach E V t W u v h in
        let z : u.left ≡ r.0 + v.left = r.2 in
        (r.0, r.1, z, omega arith)

    -- a reduction with its number, and what follows
    pub trace_reduced : {B : Type 0} {P : B → Type 0} (t : Term) (kd : Term → Account → Run B) (kg : Term → Account → Run (Wrote B)) (kh : ℕ → ℕ → Term → WalkState → Walk B) →
        ((n : ℕ) (W : Term) → Reach E V n t W → (i : ℕ) → Traces cert P (kd W) (kg W) (kh i n W)) →
        Traces cert P (λ u. bind (whnf E V t u) kd) (λ u. write_on (make_whnf E V t u) kg) (λ s. walk_on (reduced cert E V t s) (λ r x. kh r.item r.count r.term x))
    trace_reduced {P = P} t kd kg kh q = record {
      forgets = λ u. on_forgotten kg kd (make_whnf E V t u) (whnf E V t u) (writing_forgotten u (λ n. Number n ∷ []) (whnf E V t u))
          (λ w v e. let d = writing_done u (λ n. Number n ∷ []) (whnf E V t u) w v e in let r = number_taken t w.value u v d.0 in (q r.0 w.value r.1 0).forgets v);
      leads = λ u r v e.
          (let s = write_both (make_whnf E V t u) kg r v e in
          let w = s.0 in
          let m = s.1 in
          let x = s.3.0 in
          let d = writing_done u (λ n. Number n ∷ []) (whnf E V t u) w m s.2 in
          let c = number_taken t w.value u m d.0 in
          let n : ℕ = c.0 in
          let is : w.items ≡ Number n ∷ [] = d.1 ∙ ap (λ k. Number k ∷ []) c.3 in
          let p : (i : ℕ) → P x.value × Led cert m v x.items (kh i n w.value) x.value = λ i. (q n w.value c.1 i).leads m x v s.3.1 in
          subst (λ r. P r.value × Led cert u v r.items (λ s. walk_on (reduced cert E V t s) (λ r x. kh r.item r.count r.term x)) r.value)
          (ap (λ xs. wrote (xs ++ x.items) x.value) (sym is) ∙ s.3.2)
          ((p 0).0, reduced_led n t w.value u m v x.items kh x.value c.1 c.2 (λ i. (p i).1)));
    }
