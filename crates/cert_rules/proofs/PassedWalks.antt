-- Walks that pass: how they are taken apart.
use Rattle.std.proofs.Common.{◌≡◌, ℕ, zero, suc, Bool, true, false, if◌then◌else◌, List, ◌∷◌, refl, ap, subst, Option, Some, None, slice_get}
use Rattle.pc_terms.specs.Syntax.{Term}
use Rattle.pc_rules.specs.declared.meter.Account.{Account}
use Rattle.calculus_rules.specs.Environment.{Env}
use Rattle.calculus_rules.specs.Context.{Values}
use Rattle.calculus_rules.specs.WeakHead.{WeakSteps, no_step, then_step}
use Rattle.pc_rules.specs.DirectedRun as run
use Rattle.pc_rules.specs.DirectedRun.{Run, make, passing}
use Rattle.pc_rules.specs.DirectedWeakHead.{weak_next}
use Rattle.pc_rules.proofs.WeakNext.{weak_next_found}
use Rattle.cert_rules.specs.Walk.{Items, WalkState, WalkEnd, Passed, Barred, Unpaid, Crowded, Walk, WalkAct, pass, bar, tick, paid_walk, walk_ticking, end_on, walk_on, walk_all, end_at, by_rules}
use Rattle.cert_rules.specs.WalkSteps.{stepped, walk_steps, number_at, Reduced, reduced}

-- a walk followed by another passes where both do
abbrev pub Both : {A B : Type 0} → WalkEnd A → (A → WalkState → WalkEnd B) → B → WalkState → Type 0
Both {A} e k b w = (a : A) × (s : WalkState) × (e ≡ Passed a s) × (k a s ≡ Passed b w)

pub barred_passed : {A : Type 0} {i : ℕ} {u : Account} {a : A} {w : WalkState} → Barred i u ≡ Passed a w → ⊥
barred_passed e = cc

pub unpaid_passed : {A : Type 0} {a : A} {w : WalkState} → Unpaid ≡ Passed a w → ⊥
unpaid_passed e = cc

pub crowded_passed : {A : Type 0} {a : A} {w : WalkState} → Crowded ≡ Passed a w → ⊥
crowded_passed e = cc

end_both : {A B : Type 0} (e : WalkEnd A) (k : A → WalkState → WalkEnd B) (b : B) (w : WalkState) → end_on e k ≡ Passed b w → Both e k b w
end_both (Passed a s) k b w h = (a, s, refl, h)
end_both (Barred i u) k b w h = absurd (barred_passed h)
end_both Unpaid k b w h = absurd (unpaid_passed h)
end_both Crowded k b w h = absurd (crowded_passed h)

pub on_both : {A B : Type 0} (d : Walk A) (k : A → WalkState → Walk B) (b : B) (w : WalkState) → (walk_on d k).end ≡ Passed b w → Both d.end (λ a s. (k a s).end) b w
unfolding walk_on
on_both d k b w h = end_both d.end (λ a s. (k a s).end) b w h

paid_passed : {A : Type 0} (n : ℕ) (go : Walk A) (a : A) (w : WalkState) → (paid_walk n go).end ≡ Passed a w → go.end ≡ Passed a w
paid_passed zero go a w h = absurd (unpaid_passed h)
paid_passed (suc n) go a w h = h

pub ticking_passed : {A : Type 0} (s : WalkState) (go : WalkState → Walk A) (a : A) (w : WalkState) → (walk_ticking s go).end ≡ Passed a w → (go (tick s)).end ≡ Passed a w
unfolding walk_ticking
ticking_passed s go a w h = paid_passed s.account.left (go (tick s)) a w h

value_or : {A : Type 0} → WalkEnd A → A → A
value_or (Passed a s) o = a
value_or _ o = o

pub passed_value : {A : Type 0} {a b : A} {s t : WalkState} → Passed a s ≡ Passed b t → a ≡ b
unfolding value_or
passed_value {a = a} e = ap (λ r. value_or r a) e

-- a test and, where it is true, a walk
pub tested : {A : Type 0} (c : Bool) (x : Walk A) (i : ℕ) (s : WalkState) (a : A) (w : WalkState) → (if c then x else bar i s).end ≡ Passed a w →
    (c ≡ true) × (x.end ≡ Passed a w)
tested true x i s a w h = (refl, h)
tested false x i s a w h = absurd (barred_passed h)

-- what the directed rules do
pub ByRules : {A : Type 0} → (Account → Run A) → WalkState → A → Type 0
ByRules f s a = (u : Account) × ((f s.account).end ≡ run.Done a u)

end_rules : {A : Type 0} (i : ℕ) (e : run.End A) (a : A) (w : WalkState) → end_at i e ≡ Passed a w → (u : Account) × (e ≡ run.Done a u)
end_rules i (run.Done b u) a w h = (u, ap (λ x. run.Done x u) (passed_value h))
end_rules i (run.Refused b u) a w h = absurd (barred_passed h)
end_rules i run.NoUnit a w h = absurd (unpaid_passed h)
end_rules i run.Nested a w h = absurd (crowded_passed h)

pub rules_passed : {A : Type 0} (f : Account → Run A) (s : WalkState) (a : A) (w : WalkState) → (by_rules f s).end ≡ Passed a w →
    (u : Account) × ((f s.account).end ≡ run.Done a u)
unfolding by_rules
rules_passed f s a w h = end_rules s.at (f s.account).end a w h

-- a made term, and what follows
pub make_then : {B : Type 0} (t : Term) (s : WalkState) (k : Term → WalkState → Walk B) {b : B} {w : WalkState} → (walk_on (by_rules (make t) s) k).end ≡ Passed b w → (k t s).end ≡ Passed b w
unfolding walk_on by_rules
make_then t s k h = h

pub pass_then : {B : Type 0} (beyond : Bool) (s : WalkState) (k : Unit {0} → WalkState → Walk B) {b : B} {w : WalkState} →
    (walk_on (by_rules (passing beyond) s) k).end ≡ Passed b w → (k tt s).end ≡ Passed b w
unfolding walk_on by_rules
pass_then beyond s k h = h

pub all_both : (act : WalkAct) (acts : List WalkAct) (s v : WalkState) → (walk_all (act ∷ acts) s).end ≡ Passed tt v →
    (w : WalkState) × ((act s).end ≡ Passed tt w) × ((walk_all acts w).end ≡ Passed tt v)
unfolding walk_all
all_both act acts s v h = let p = on_both (act s) (λ _ w. walk_all acts w) tt v h in (p.1, p.2, p.3)

-- steps

module _ (E : Env) (V : Values) where
  stepped_lead : (i : ℕ) (t W : Term) (o : Option Term) (s v : WalkState) (go : Term → Walk Term) → weak_next E V t ≡ o →
      ((x : Term) → (go x).end ≡ Passed W v → WeakSteps E V x W) → (stepped i o s go).end ≡ Passed W v → WeakSteps E V t W
  stepped_lead i t W None s v go e rec h = absurd (barred_passed h)
  stepped_lead i t W (Some x) s v go e rec h = then_step (weak_next_found E V t x e) (rec x h)

  pub steps_lead : (i n : ℕ) (t W : Term) (s v : WalkState) → (walk_steps E V i n t s).end ≡ Passed W v → WeakSteps E V t W
  unfolding walk_steps
  steps_lead i zero t W s v h = subst (λ x. WeakSteps E V t x) (passed_value h) no_step
  steps_lead i (suc n) t W s v h =
      stepped_lead i t W (weak_next E V t) (tick s) v (λ x. walk_steps E V i n x (tick s)) refl (λ x h'. steps_lead i n x W (tick s) v h')
      (paid_passed s.account.left (stepped i (weak_next E V t) (tick s) (λ x. walk_steps E V i n x (tick s))) W v h)

  pub no_steps : (i : ℕ) (t W : Term) (s v : WalkState) → (walk_steps E V i 0 t s).end ≡ Passed W v → t ≡ W
  unfolding walk_steps
  no_steps i t W s v h = passed_value h

  -- what a number comes to
  pub record Reduces (cert : Items) (t : Term) (r : Reduced) : Type 0 where
    pub steps : WeakSteps E V t r.term
    pub still : r.count ≡ 0 → t ≡ r.term

  still_at : (i n : ℕ) (t W : Term) (s v : WalkState) → (walk_steps E V i n t s).end ≡ Passed W v → n ≡ 0 → t ≡ W
  still_at i n t W s v h e = no_steps i t W s v (subst (λ n. (walk_steps E V i n t s).end ≡ Passed W v) e h)

  pub reduced_passed : (cert : Items) (t : Term) (r : Reduced) (s v : WalkState) → (reduced cert E V t s).end ≡ Passed r v → Reduces cert t r
  unfolding reduced
  reduced_passed cert t r s v h =
      let k2 : ℕ → Term → WalkState → Walk Reduced = λ n W w. pass (record { item = s.at; count = n; term = W }) w in
      let k1 : ℕ → WalkState → Walk Reduced = λ n v. walk_on (walk_steps E V s.at n t v) (k2 n) in
      let p1 = on_both (number_at (slice_get cert s.at) s) k1 r v h in
      let p2 = on_both (walk_steps E V s.at p1.0 t p1.1) (k2 p1.0) r v p1.3 in
      subst (λ r. Reduces cert t r) (passed_value p2.3)
      (record { steps = steps_lead s.at p1.0 t p2.0 p1.1 p2.1 p2.2; still = λ e. still_at s.at p1.0 t p2.0 p1.1 p2.1 p2.2 e })
