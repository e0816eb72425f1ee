-- Weak-head steps of a walk, one after the other.
use Rattle.std.proofs.Common.{◌≡◌, ◌∙◌, sym, ap, refl, subst, ℕ, zero, suc, ◌+◌, ◌<◌, ◌≤◌, ◌-◌, Ok, Err, IsTrue, Option, Some, None, arith}
use Rattle.pc_terms.specs.Syntax.{Term}
use Rattle.pc_rules.specs.declared.meter.Account.{Account}
use Rattle.pc_rules.specs.declared.stop.Stop.{Stop as StopKind}
use Rattle.pc_rules.specs.declared.stop.Stop.TheVariants.{Spent, TooDeep, Memory}
use Rattle.calculus_rules.specs.Environment.{Env}
use Rattle.calculus_rules.specs.Context.{Values}
use Rattle.calculus_rules.specs.Lookups.{if_some}
use Rattle.pc_rules.specs.DirectedRun.{Done, ticked, is_beyond}
use Rattle.pc_rules.specs.DirectedWeakHead.{weak_next, whnf}
use Rattle.pc_rules.specs.Follows.{IsAfter}
use Rattle.pc_rules.proofs.Meters.{after-trans, after-tick}
use Rattle.pc_rules.proofs.WeakNext.{none_some}
use Rattle.cert_rules.specs.Walk.{WalkState, Walk, Passed, tick, paid_walk}
use Rattle.cert_rules.specs.WalkSteps.{stepped, walk_steps}
use Rattle.cert_rules.proofs.ExactGuard.{Reach, arrived, onward, whnf_reach}
use Rattle.reduce_machine.specs.Reducts.{after}
use Rattle.type_cert.specs.declared.halt.WalkHalt.TheVariants as walks
use Rattle.type_cert.specs.declared.trail.Trail.{Trail}
use Rattle.type_cert.specs.Retraces.{stand, WalkHalts, Retraces}
use Rattle.reduction.specs.Single.{PassesLimit}
use Rattle.type_cert.specs.WalkLeads.{WalkLeads}
use Rattle.type_cert.proofs.Retracing.{paid_more, paid_none}
use Rattle.pc_rules.proofs.Following.{or_left, or_right}
use Rattle.calculus_rules.proofs.Spines.{one_item}

-- where a trail stands after a unit
pub stand_ticked : (t0 t1 : Trail) → t1.meter.account ≡ ticked t0.meter.account → t1.at ≡ t0.at → stand t1 ≡ tick (stand t0)
stand_ticked t0 t1 e f = λ i. record { account = e i; at = f i }

-- a reduction that takes all the units that it has
module _ (E : Env) (V : Values) where
  reach_after : (n : ℕ) (t W : Term) → Reach E V n t W → after E V n t ≡ Some W
  reach_after _ t _ (arrived e) = refl
  reach_after _ t W (onward {n = n} {x = x} e p) = ap (λ o. if_some o (after E V n)) e ∙ reach_after n x W p

  pub whnf_after : (n : ℕ) (t W : Term) (u v : Account) → (whnf E V t u).end ≡ Done W v → u.left ≡ n → v.left ≡ 0 → after E V n t ≡ Some W
  whnf_after n t W u v h l z =
      let r = whnf_reach E V t W u v h in
      let m : u.left ≡ r.0 + v.left = r.2 in
      let k : r.0 ≡ n = omega arith in
      subst (λ n. after E V n t ≡ Some W) k (reach_after r.0 t W r.1)

module _ (E : Env) (V : Values) (item : ℕ) where
  -- so many steps where the units for them are there
  pub after_walks : (n : ℕ) (t W : Term) (s : WalkState) (o : Option Term) → weak_next E V t ≡ o → after E V n t ≡ Some W → n ≤ s.account.left →
      (walk_steps E V item n t s).end ≡ Passed W (record { account = record { left = s.account.left - n; uses = s.account.uses }; at = s.at })
  unfolding walk_steps
  after_walks zero t W s o q e l =
      let d : s.account.left ≡ s.account.left - 0 = omega arith in
      let w : t ≡ W = one_item e in
      λ i. Passed (w i) (record { account = record { left = d i; uses = s.account.uses }; at = s.at })
  after_walks (suc n) t W s None q e l = absurd (none_some (sym (ap (λ o. if_some o (after E V n)) q) ∙ e))
  after_walks (suc n) t W s (Some x) q e l =
      let go : Term → Walk Term = λ x. walk_steps E V item n x (tick s) in
      let d : s.account.left - 1 - n ≡ s.account.left - suc n = omega arith in
      let rest : after E V n x ≡ Some W = sym (ap (λ o. if_some o (after E V n)) q) ∙ e in
      ap (λ w. w.end) (paid_more s.account.left (stepped item (weak_next E V t) (tick s) go) (omega arith)) ∙ ap (λ o. (stepped item o (tick s) go).end) q
      ∙ after_walks n x W (tick s) (weak_next E V x) refl rest (omega arith) ∙ (λ i. Passed W (record { account = record { left = d i; uses = s.account.uses }; at = s.at }))

  -- the units of so many steps are taken at once
  pub walked_at_once : (n : ℕ) (t W : Term) (t0 t1 : Trail) → after E V n t ≡ Some W → n ≤ t0.meter.account.left →
      t1.meter.account ≡ record { left = t0.meter.account.left - n; uses = t0.meter.account.uses } → t1.meter.nest ≡ t0.meter.nest → t1.at ≡ t0.at →
      Retraces (walk_steps E V item n t (stand t0)) (Ok W) t0 t1
  walked_at_once n t W t0 t1 e l k m a = record {
    answer = after_walks n t W (stand t0) (weak_next E V t) refl e l ∙ (λ i. Passed W (record { account = sym k i; at = sym a i }));
    after = record { nest = m; left = rw k (omega arith); uses = λ i. rw k (omega arith) };
  }

  -- with steps left, the unit first
  more_steps : (n : ℕ) (t : Term) (s : WalkState) → 0 < n →
      walk_steps E V item n t s ≡ paid_walk s.account.left (stepped item (weak_next E V t) (tick s) (λ x. walk_steps E V item (n - 1) x (tick s)))
  unfolding walk_steps
  more_steps zero t s h = absurd (omega arith)
  more_steps (suc n) t s h = let e : n ≡ suc n - 1 = omega arith in ap (λ k. paid_walk s.account.left (stepped item (weak_next E V t) (tick s) (λ x. walk_steps E V item k x (tick s)))) e

  paid_steps : (n : ℕ) (t : Term) (s : WalkState) → 0 < n → 0 < s.account.left →
      walk_steps E V item n t s ≡ stepped item (weak_next E V t) (tick s) (λ x. walk_steps E V item (n - 1) x (tick s))
  paid_steps n t s h z = more_steps n t s h ∙ paid_more s.account.left _ z

  no_more : (n : ℕ) (t : Term) (s : WalkState) → n ≡ 0 → (walk_steps E V item n t s).end ≡ Passed t s
  unfolding walk_steps
  no_more zero t s e = refl
  no_more (suc n) t s e = absurd (omega arith)

  module _ (whole : Walk Term) (n : ℕ) (t : Term) (t0 t1 t2 : Trail) (leads : WalkLeads whole (walk_steps E V item n t (stand t1))) (after : IsAfter t0.meter t1.meter) where
    pub steps_end : n ≡ 0 → Retraces whole (Ok t) t0 t1
    steps_end e = record { answer = leads.end ∙ no_more n t (stand t1) e; after = after }

    pub steps_spent : 0 < n → t1.meter.account.left ≡ 0 → t2.meter.account ≡ ticked t1.meter.account → t2.meter.nest ≡ t1.meter.nest → Retraces whole (Err (walks.Stop Spent)) t0 t2
    steps_spent h z e f =
        let d = ap (λ w. w.end) (more_steps n t (stand t1) h ∙ paid_none t1.meter.account.left _ z) in
        record { answer = (leads.end ∙ d, rw e (omega arith)); after = after-trans t0.meter t1.meter t2.meter after (after-tick t1.meter t2.meter e f) }

    module _ (h : 0 < n) (z : 0 < t1.meter.account.left) (e : t2.meter.account ≡ ticked t1.meter.account) (f : t2.meter.nest ≡ t1.meter.nest) (g : t2.at ≡ t1.at) where
      gone : IsAfter t0.meter t2.meter
      gone = after-trans t0.meter t1.meter t2.meter after (after-tick t1.meter t2.meter e f)

      stepped_is : (o : Option Term) → weak_next E V t ≡ o → walk_steps E V item n t (stand t1) ≡ stepped item o (stand t2) (λ x. walk_steps E V item (n - 1) x (stand t2))
      stepped_is o k =
          paid_steps n t (stand t1) h z ∙ (λ i. stepped item (k i) (sym (stand_ticked t1 t2 e g) i) (λ x. walk_steps E V item (n - 1) x (sym (stand_ticked t1 t2 e g) i)))

      pub steps_barred : weak_next E V t ≡ None → Retraces whole (Err (walks.Barred item)) t0 t2
      steps_barred k = record { answer = leads.end ∙ ap (λ w. w.end) (stepped_is None k); after = gone }

      deep_at : (s : StopKind) → PassesLimit (weak_next E V t) s → WalkHalts whole (walks.Stop s) t2.meter.account
      deep_at Spent p = absurd p
      deep_at Memory p = tt
      deep_at TooDeep p =
          leads.deep (subst (λ w. IsTrue w.deep) (sym (stepped_is (Some p.0) p.1)) (or_left (is_beyond p.0) (walk_steps E V item (n - 1) p.0 (stand t2)).deep p.2))

      pub steps_stop : (s : StopKind) → PassesLimit (weak_next E V t) s → Retraces whole (Err (walks.Stop s)) t0 t2
      steps_stop s p = record { answer = deep_at s p; after = gone }

      pub steps_go : (x : Term) → weak_next E V t ≡ Some x → WalkLeads whole (walk_steps E V item (n - 1) x (stand t2)) × IsAfter t0.meter t2.meter
      steps_go x k = (
        record {
          end = leads.end ∙ ap (λ w. w.end) (stepped_is (Some x) k);
          deep = λ d. leads.deep (subst (λ w. IsTrue w.deep) (sym (stepped_is (Some x) k)) (or_right (is_beyond x) (walk_steps E V item (n - 1) x (stand t2)).deep d));
        },
        gone,
      )
