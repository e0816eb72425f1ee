-- What a comparison answers at its start: before it is entered, where the two are one tree, and by their weak-head normal forms.
use Rattle.std.proofs.Common.{◌≡◌, ◌∙◌, ap, refl, ℕ, zero, suc, ◌<◌, ◌-◌, ◌+◌, ◌||◌, inl, inr, Result, Ok, Err, IsTrue, Bool, true, false, arith}
use Rattle.trees.specs.Measures.{IsBeyond}
use Rattle.pc_terms.specs.Syntax.{Term}
use Rattle.pc_rules.specs.declared.meter.Account.{Account}
use Rattle.pc_rules.specs.declared.meter.Meter.{Meter}
use Rattle.pc_rules.specs.declared.stop.Stop.TheVariants.{Spent, TooDeep}
use Rattle.pc_rules.specs.declared.stop.Halt.{Halt}
use Rattle.pc_rules.specs.declared.stop.Halt.TheVariants.{Stop}
use Rattle.calculus_rules.specs.Environment.{Env}
use Rattle.calculus_rules.specs.Context.{Context, Values, values}
use Rattle.calculus_rules.specs.Same.{same}
use Rattle.pc_rules.specs.DirectedRun.{Run, ticked, is_beyond, bind, Leaves}
use Rattle.pc_rules.specs.DirectedWeakHead.{whnf}
use Rattle.pc_rules.specs.DirectedComparison.{Test, Comparison, compare, entered, pair}
use Rattle.pc_rules.specs.Follows.{Follows, IsAfter}
use Rattle.pc_rules.proofs.Following.{or_left, or_right, beyond_is, follows_done}
use Rattle.pc_rules.proofs.Meters.{after-refl, after-trans, after-tick}
use Rattle.pc_rules.proofs.FairReduction.{FairComparison}
use Rattle.pc_rules.proofs.Leaving.{leaving}
use Rattle.std.proofs.lemmas.Bool.{or_cases}
use Rattle.instances.proofs.Beyond.{true_beyond}
use Rattle.conversion.proofs.Comparing.{compare_spent, compare_nested, compare_entered}
use Rattle.reduce_machine.specs.Passed.{having_passed}
use Rattle.lazy_conversion.specs.Tracks.{Tracks, EitherBeyond}
use Rattle.lazy_conversion.proofs.Tracking.{passed_more, passed_bind, passed_err, passed_entered, followed, tracks_by, tracks_each}

-- how a meter is left where a rule was entered and left
whole_after : (m0 m1 m2 m3 m4 : Meter) → m1.account ≡ ticked m0.account → m1.nest ≡ m0.nest → m2.account ≡ m1.account → m2.nest ≡ m1.nest + 1 → IsAfter m2 m3 →
    m4.account ≡ m3.account → m4.nest ≡ m3.nest - 1 → IsAfter m0 m4
whole_after m0 m1 m2 m3 m4 e n e' n' a e'' n'' =
    let q = a.nest in
    record {
      nest = omega arith;
      left = rw e'' (omega (arith, a.left, ap (λ u. u.left) (e' ∙ e)));
      uses = λ i. rw e'' (let x = a.uses i in rw (e', e) at x);
    }

module _ (E : Env) (q : Test) (V : Values) (equal : Bool) (a b : Term) where
  abbrev comparing : ℕ → Context → Account → Run (Unit {0})
  comparing n c = compare E q n c equal a b

  pub tracks_spent : {P : Type 0} (n : ℕ) (m0 m1 : Meter) → m0.account.left ≡ 0 → m1.account ≡ ticked m0.account → m1.nest ≡ m0.nest → Tracks V P (comparing n) (Err (Stop Spent)) m0 m1
  tracks_spent n m0 m1 z e k = tracks_each (comparing n) (Err (Stop Spent)) m0 m1 (after-tick m0 m1 e k) (λ c. compare_spent E q c equal a b n m0 m1 z e k)

  pub tracks_nested : {P : Type 0} (n : ℕ) (m0 m1 m2 : Meter) → n ≡ 0 → 0 < m0.account.left → m1.account ≡ ticked m0.account → m1.nest ≡ m0.nest → m2.account ≡ m1.account → m2.nest ≡ m1.nest →
      Tracks V P (comparing n) (Err (Stop TooDeep)) m0 m2
  tracks_nested n m0 m1 m2 z h e k e' k' =
      tracks_each (comparing n) (Err (Stop TooDeep)) m0 m2 (after-tick m0 m2 (e' ∙ e) (k' ∙ k)) (λ c. compare_nested E q c equal a b n m0 m1 m2 z h e k e' k')

  entered_each : {P : Type 0} (n k : ℕ) (r : Result (Unit {0}) Halt) (m0 m1 m2 m3 m4 : Meter) → n ≡ suc k → 0 < m0.account.left → m1.account ≡ ticked m0.account → m1.nest ≡ m0.nest →
      m2.account ≡ m1.account → m2.nest ≡ m1.nest + 1 → Tracks V P (λ c. entered E q (compare E q k) c equal a b) r m2 m3 → m4.account ≡ m3.account → m4.nest ≡ m3.nest - 1 →
      (c : Context) (p : Bool) → values c ≡ V → (P → IsTrue p) → Follows (having_passed p (compare E q n c equal a b m0.account)) r m0 m4
  unfolding compare
  entered_each zero k r m0 m1 m2 m3 m4 z h e n e' n' f e'' n'' c p v w = absurd (omega arith)
  entered_each (suc j) k r m0 m1 m2 m3 m4 z h e n e' n' f e'' n'' c p v w =
      let y : j ≡ k = omega arith in
      rw y (passed_entered p (λ u. entered E q (compare E q k) c equal a b u) r m0 m1 m2 m3 m4 h e n e' n' (followed (λ c. entered E q (compare E q k) c equal a b) r m2 m3 f c p v w) e'' n'')

  pub tracks_entered : {P : Type 0} (n k : ℕ) (r : Result (Unit {0}) Halt) (m0 m1 m2 m3 m4 : Meter) → n ≡ suc k → 0 < m0.account.left → m1.account ≡ ticked m0.account → m1.nest ≡ m0.nest →
      m2.account ≡ m1.account → m2.nest ≡ m1.nest + 1 → Tracks V P (λ c. entered E q (compare E q k) c equal a b) r m2 m3 → m4.account ≡ m3.account → m4.nest ≡ m3.nest - 1 →
      Tracks V P (comparing n) r m0 m4
  tracks_entered n k r m0 m1 m2 m3 m4 z h e l e' l' f e'' l'' =
      tracks_by (comparing n) r m0 m4 (whole_after m0 m1 m2 m3 m4 e l e' l' f.after e'' l'') (entered_each n k r m0 m1 m2 m3 m4 z h e l e' l' f e'' l'')

-- two that are the same take a unit, and no more than a moment's nesting
pub compare_at_once : (E : Env) (q : Test) (equal : Bool) (a b : Term) (n : ℕ) (c : Context) (m0 m1 m2 m3 : Meter) → 0 < n → 0 < m0.account.left → m1.account ≡ ticked m0.account → m1.nest ≡ m0.nest →
    m2.account ≡ m1.account → m2.nest ≡ m1.nest + 1 → m3.account ≡ m2.account → m3.nest ≡ m2.nest - 1 → same a b ≡ true → Follows (compare E q n c equal a b m0.account) (Ok tt) m0 m3
compare_at_once E q equal a b n c m0 m1 m2 m3 z h e k e' k' e'' k'' s =
    let y : n ≡ suc (n - 1) = omega arith in
    let f : Follows (entered E q (compare E q (n - 1)) c equal a b m2.account) (Ok tt) m2 m2 = rw s (follows_done tt m2) in
    compare_entered E q c equal a b n (n - 1) (Ok tt) m0 m1 m2 m2 m3 y h e k e' k' f e'' k''

module _ (E : Env) (q : Test) (cmp : Comparison) (V : Values) (equal : Bool) (a b : Term) where
  abbrev entering_pair : Context → Account → Run (Unit {0})
  entering_pair c = entered E q cmp c equal a b

  pub entered_same : {P : Type 0} (m : Meter) → same a b ≡ true → Tracks V P entering_pair (Ok tt) m m
  entered_same m s = tracks_each entering_pair (Ok tt) m m (after-refl m) (λ c. rw s (follows_done tt m))

  -- both are reduced, then compared
  module _ (no : same a b ≡ false) where
    abbrev then_pair : Context → Term → Account → Run (Unit {0})
    then_pair c x v = bind (whnf E V b v) (λ y w. pair E q cmp c equal x y w)

    reduced_first : (c : Context) (u : Account) → values c ≡ V → entered E q cmp c equal a b u ≡ bind (whnf E V a u) (then_pair c)
    reduced_first c u e = rw (no, e) refl

    then_leaves : FairComparison 0 0 cmp → (c : Context) (x : Term) (u : Account) → Leaves (then_pair c x u).end u.left
    then_leaves g c x u = search (leaving, g)

    passed_start : (p : Bool) (t : Term) → (IsBeyond t → IsTrue p) → IsTrue (is_beyond t) → IsTrue p
    passed_start p t h e = h (true_beyond t e)

    pub left_stops : FairComparison 0 0 cmp → (x : Halt) (m0 m1 : Meter) → Follows (having_passed (is_beyond a) (whnf E V a m0.account)) (Err x) m0 m1 → Tracks V (EitherBeyond a b) entering_pair (Err x) m0 m1
    left_stops g x m0 m1 f =
        tracks_by entering_pair (Err x) m0 m1 f.after
        (λ c p e h. rw (reduced_first c m0.account e) (passed_err p (whnf E V a m0.account) (then_pair c) x m0 m1
        (passed_more (is_beyond a) p (whnf E V a m0.account) (Err x) m0 m1 (passed_start p a (λ k. h (inl k))) f) (then_leaves g c)))

    module _ (x : Term) (m0 m1 : Meter) (f : Follows (having_passed (is_beyond a) (whnf E V a m0.account)) (Ok x) m0 m1) where
      pub right_stops : FairComparison 0 0 cmp → (y : Halt) (m2 : Meter) → Follows (having_passed (is_beyond b) (whnf E V b m1.account)) (Err y) m1 m2 → Tracks V (EitherBeyond a b) entering_pair (Err y) m0 m2
      right_stops fair y m2 g =
          let l = (whnf E V a m0.account).deep in
          tracks_by entering_pair (Err y) m0 m2 (after-trans m0 m1 m2 f.after g.after)
          (λ c p e h. rw (reduced_first c m0.account e) (passed_bind p (whnf E V a m0.account) (then_pair c) x (Err y) m0 m1 m2
          (passed_more (is_beyond a) p (whnf E V a m0.account) (Ok x) m0 m1 (passed_start p a (λ k. h (inl k))) f)
          (passed_err (p || l) (whnf E V b m1.account) (λ z w. pair E q cmp c equal x z w) y m1 m2
          (passed_more (is_beyond b) (p || l) (whnf E V b m1.account) (Err y) m1 m2 (passed_start (p || l) b (λ k. or_left p l (h (inr k)))) g) (search (leaving, fair)))))

      either_deep : (p o l : Bool) (t : Term) → (IsTrue (is_beyond t) → IsTrue (o || l)) → (IsTrue o → IsTrue p) → IsBeyond t → IsTrue (p || l)
      either_deep p o l t f g h = elim (or_cases o l (f (beyond_is t h))) [
        | inl k ↦ or_left p l (g k)
        | inr k ↦ or_right p l k
      ]

      both_deep : (y : Term) (p l k : Bool) → (IsTrue (is_beyond x) → IsTrue (is_beyond a || l)) → (IsTrue (is_beyond y) → IsTrue (is_beyond b || k)) → (IsTrue (is_beyond a) → IsTrue p) →
          (IsTrue (is_beyond b) → IsTrue (p || l)) → EitherBeyond x y → IsTrue ((p || l) || k)
      both_deep y p l k bx by oa ob (inl j) = or_left (p || l) k (either_deep p (is_beyond a) l x bx oa j)
      both_deep y p l k bx by oa ob (inr j) = either_deep (p || l) (is_beyond b) k y by ob j

      pub both_reduced : (y : Term) (r : Result (Unit {0}) Halt) (m2 m3 : Meter) → (IsTrue (is_beyond x) → IsTrue (having_passed (is_beyond a) (whnf E V a m0.account)).deep) →
          Follows (having_passed (is_beyond b) (whnf E V b m1.account)) (Ok y) m1 m2 → (IsTrue (is_beyond y) → IsTrue (having_passed (is_beyond b) (whnf E V b m1.account)).deep) →
          Tracks V (EitherBeyond x y) (λ c. pair E q cmp c equal x y) r m2 m3 → Tracks V (EitherBeyond a b) entering_pair r m0 m3
      both_reduced y r m2 m3 bx g by t =
          let l = (whnf E V a m0.account).deep in
          let k = (whnf E V b m1.account).deep in
          tracks_by entering_pair r m0 m3 (after-trans m0 m1 m3 f.after (after-trans m1 m2 m3 g.after t.after))
          (λ c p e h. let oa : IsTrue (is_beyond a) → IsTrue p = passed_start p a (λ j. h (inl j)) in
          let ob : IsTrue (is_beyond b) → IsTrue (p || l) = passed_start (p || l) b (λ j. or_left p l (h (inr j))) in
          rw (reduced_first c m0.account e) (passed_bind p (whnf E V a m0.account) (then_pair c) x r m0 m1 m3
          (passed_more (is_beyond a) p (whnf E V a m0.account) (Ok x) m0 m1 oa f)
          (passed_bind (p || l) (whnf E V b m1.account) (λ z w. pair E q cmp c equal x z w) y r m1 m2 m3
          (passed_more (is_beyond b) (p || l) (whnf E V b m1.account) (Ok y) m1 m2 ob g)
          (followed (λ c. pair E q cmp c equal x y) r m2 m3 t c ((p || l) || k) e (both_deep y p l k bx by oa ob)))))
