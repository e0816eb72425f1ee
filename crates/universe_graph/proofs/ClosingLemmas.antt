-- Closing spans at one more level keeps what is known of them.
use Rattle.std.proofs.Common.{◌≡◌, ℕ, zero, suc, ◌+◌, ◌<◌, ◌≤◌, inl, inr, max, List, sym, ap, subst, ◌∙◌, arith}
use Rattle.std.proofs.lemmas.Bool.{cases_order}
use Rattle.std.proofs.lemmas.List.Elements.{All-weaker}
use Rattle.universe_levels.specs.declared.constraint.Constraint.{Constraint}
use Rattle.universe_levels.specs.declared.constraint.Relation.{Relation}
use Rattle.universe_levels.specs.declared.constraint.Relation.TheVariants.{Lt, Le, Eq}
use Rattle.universe_graph.specs.Spans.{chained, through}
use Rattle.universe_graph.specs.Closure.{Follows, StepsIn, HasSteps, IsClosedAt}
use Rattle.universe_graph.proofs.Chains.{one-chained, chained-one, chained_comm, chained_assoc, chained-le, max-le, max-chained-le, chained-max-le}

-- a valuation that follows the spans follows those through a level
pub follows-through : (v : ℕ → ℕ) (s : ℕ → ℕ → ℕ) (k : ℕ) → Follows v s → Follows v (through s k)
follows-through v s k follows = λ i j.
    let first : chained (chained (suc (v i)) (s i k)) (s k j) ≤ chained (suc (v k)) (s k j) = chained-le _ (s k j) _ (s k j) (follows i k) (omega arith) in
    let second : chained (suc (v k)) (s k j) ≤ suc (v j) = follows k j in
    chained-max-le (suc (v i)) (s i j) (chained (s i k) (s k j)) (suc (v j)) (follows i j)
    (subst (λ n. n ≤ suc (v j)) (chained_assoc (suc (v i)) (s i k) (s k j)) (omega arith))

pub steps-more : (s t : ℕ → ℕ → ℕ) → ((i j : ℕ) → s i j ≤ t i j) → (r : Relation) (i j : ℕ) → StepsIn s r i j → StepsIn t r i j
steps-more s t more Lt i j h = let m = more i j in omega arith
steps-more s t more Le i j h = let m = more i j in omega arith
steps-more s t more Eq i j h = (let m = more i j in omega arith, let m = more j i in omega arith)

pub has_steps-more : (levels : ℕ) (cs : List Constraint) (s t : ℕ → ℕ → ℕ) → ((i j : ℕ) → s i j ≤ t i j) → HasSteps levels cs s → HasSteps levels cs t
has_steps-more levels cs s t more steps = record {
  itself = λ i h. let m = more i i in let a = steps.itself i h in omega arith;
  declared = λ l h k. let m = more 0 l in let a = steps.declared l h k in omega arith;
  constraints = All-weaker _ _ (λ c h. steps-more s t more c.relation c.left.0 c.right.0 h) cs steps.constraints;
}

-- the levels closed before stay closed
pub closed-before : (levels : ℕ) (s : ℕ → ℕ → ℕ) (k m : ℕ) → k ≤ levels → m ≤ levels → s k k ≤ 1 → IsClosedAt levels s m → IsClosedAt levels (through s k) m
closed-before levels s k m hk hm unit closed = record {
  itself =
      let round : chained (s k m) (s m k) ≤ s k k = closed.chains k k hk hk in
      max-le (s m m) (chained (s m k) (s k m)) 1 closed.itself (subst (λ n. n ≤ 1) (chained_comm (s k m) (s m k)) (omega arith));
  chains = λ i j hi hj.
      let T : ℕ = max (s i j) (chained (s i k) (s k j)) in
      let whole : chained (s i k) (s k j) ≤ T = omega arith in
      let direct : s i j ≤ T = omega arith in
      let p : chained (s i m) (s m j) ≤ s i j = closed.chains i j hi hj in
      let q : chained (chained (s i m) (s m k)) (s k j) ≤ chained (s i k) (s k j) = chained-le _ (s k j) _ (s k j) (closed.chains i k hi hk) (omega arith) in
      let q' : chained (s i m) (chained (s m k) (s k j)) ≤ T = subst (λ n. n ≤ T) (chained_assoc (s i m) (s m k) (s k j)) (omega arith) in
      let r : chained (s i k) (chained (s k m) (s m j)) ≤ chained (s i k) (s k j) = chained-le (s i k) _ (s i k) _ (omega arith) (closed.chains k j hk hj) in
      let r' : chained (chained (s i k) (s k m)) (s m j) ≤ T = subst (λ n. n ≤ T) (sym (chained_assoc (s i k) (s k m) (s m j))) (omega arith) in
      let round : chained (s k m) (s m k) ≤ 1 = let h = closed.chains k k hk hk in omega arith in
      let turn : chained (chained (s k m) (s m k)) (s k j) ≤ s k j = subst (λ n. chained (chained (s k m) (s m k)) (s k j) ≤ n) (one-chained (s k j)) (chained-le _ (s k j) 1 (s k j) round (omega arith)) in
      let t : chained (s i k) (chained (chained (s k m) (s m k)) (s k j)) ≤ chained (s i k) (s k j) = chained-le (s i k) _ (s i k) _ (omega arith) turn in
      let shape : chained (s i k) (chained (chained (s k m) (s m k)) (s k j)) ≡ chained (chained (s i k) (s k m)) (chained (s m k) (s k j)) =
      ap (chained (s i k)) (chained_assoc (s k m) (s m k) (s k j)) ∙ sym (chained_assoc (s i k) (s k m) (chained (s m k) (s k j))) in
      let t' : chained (chained (s i k) (s k m)) (chained (s m k) (s k j)) ≤ T = subst (λ n. n ≤ T) shape (omega arith) in
      max-chained-le (s i m) (chained (s i k) (s k m)) _ T
      (chained-max-le (s i m) (s m j) (chained (s m k) (s k j)) T (omega arith) q')
      (chained-max-le (chained (s i k) (s k m)) (s m j) (chained (s m k) (s k j)) T r' t');
}

-- the level itself is closed
pub closed-here : (levels : ℕ) (s : ℕ → ℕ → ℕ) (k : ℕ) → s k k ≡ 1 → IsClosedAt levels (through s k) k
closed-here levels s k unit = record {
  itself = let e : chained (s k k) (s k k) ≡ 1 = ap (λ n. chained n n) unit in omega arith;
  chains = λ i j hi hj.
      let left : max (s i k) (chained (s i k) (s k k)) ≡ s i k =
      let e : chained (s i k) (s k k) ≡ s i k = ap (chained (s i k)) unit ∙ chained-one (s i k) in omega arith in
      let right : max (s k j) (chained (s k k) (s k j)) ≡ s k j =
      let e : chained (s k k) (s k j) ≡ s k j = ap (λ n. chained n (s k j)) unit ∙ one-chained (s k j) in omega arith in
      rw (left, right) (omega arith);
}

pub closed-step : (levels : ℕ) (s : ℕ → ℕ → ℕ) (k : ℕ) → k ≤ levels → s k k ≡ 1 → ((m : ℕ) → m < k → IsClosedAt levels s m)
    → (m : ℕ) → m < k + 1 → IsClosedAt levels (through s k) m
closed-step levels s k h unit closed m l =
    elim (cases_order m k) [
      | inl e ↦ subst (IsClosedAt levels (through s k)) (sym e) (closed-here levels s k unit)
      | inr q ↦ elim q [
        | inl less ↦ closed-before levels s k m h (omega arith) (omega arith) (closed m less)
        | inr more ↦ absurd (omega arith)
      ]
    ]

-- the same spans
pub closed-same : (levels : ℕ) (s t : ℕ → ℕ → ℕ) (m : ℕ) → ((i j : ℕ) → t i j ≡ s i j) → IsClosedAt levels s m → IsClosedAt levels t m
closed-same levels s t m same closed = record {
  itself = subst (λ n. n ≤ 1) (sym (same m m)) closed.itself;
  chains = λ i j hi hj. rw (same i m, same m j, same i j) (closed.chains i j hi hj);
}

pub follows-same : (v : ℕ → ℕ) (s t : ℕ → ℕ → ℕ) → ((i j : ℕ) → t i j ≡ s i j) → Follows v s → Follows v t
follows-same v s t same follows = λ i j. subst (λ n. chained (suc (v i)) n ≤ suc (v j)) (sym (same i j)) (follows i j)

-- spans that a bounded valuation follows are bounded
pub bounded-span : (n a b s : ℕ) → chained (suc a) s ≤ suc b → b ≤ n → s ≤ suc n
bounded-span n a b zero h k = omega arith
bounded-span n a b (suc s) h k = omega arith

-- no valuation follows a strict chain from a level to itself
pub no-loop : (a s : ℕ) → chained (suc a) s ≤ suc a → 1 < s → ⊥
no-loop a zero h k = omega arith
no-loop a (suc s) h k = omega arith
