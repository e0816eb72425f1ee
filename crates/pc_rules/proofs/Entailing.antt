-- The test of entailment that computes decides entailment.
use Rattle.std.proofs.Common.{◌≡◌, ◌≢◌, ◌↔◌, IsTrue, ℕ, zero, suc, ◌<◌, ◌≤◌, ◌==◌, ◌&&◌, ◌||◌, Bool, true, false, nat_le, if◌then◌else◌, List, [], ◌∷◌, length, get_or, refl, sym, ap, subst, arith}
use Rattle.std.proofs.lemmas.Bool.{eqb-true, and_from}
use Rattle.std.proofs.lemmas.Bool.Decides.{nat_tests}
use Rattle.std.specs.List.{All, Any}
use Rattle.universe_levels.specs.declared.level.LevelExpr.{LevelExpr}
use Rattle.universe_levels.specs.declared.constraint.Constraint.{Constraint}
use Rattle.universe_levels.specs.declared.constraint.Relation.{Relation}
use Rattle.universe_levels.specs.declared.constraint.Relation.TheVariants.{Lt, Le, Eq}
use Rattle.universe_levels.specs.Valuation.{IsValuation, Meets, Related}
use Rattle.universe_levels.specs.Consistency.{IsConsistent, Entails, AreOver, IsOver}
use Rattle.universe_graph.specs.Spans.{chained, through, Covers, IsCovered}
use Rattle.universe_graph.specs.Closure.{IsSound, StepsIn, HasSteps, IsClosedAt, IsClosed}
use Rattle.universe_graph.proofs.Chains.{chained-max-le}
use Rattle.universe_graph.proofs.ClosingLemmas.{follows-through, has_steps-more, closed-step}
use Rattle.universe_graph.proofs.Refuting.{covered-entails, entails-covered}
use Rattle.pc_rules.specs.DirectedComparison.{IsTest}
use Rattle.pc_rules.specs.Entailment.{are_ends, step_of, constraint_steps, own_step, first_spans, closed_below, spans, covers_part, some_covers, covers, entailed_by}
use Rattle.pc_rules.proofs.WeakNext.{both_true}

-- a valuation that meets the constraints follows their steps

ends_are : (l r i j : ℕ) → are_ends l r i j ≡ true → (i ≡ l) × (j ≡ r)
ends_are l r i j e = let b = both_true (i == l) (j == r) e in (eqb-true i l b.0, eqb-true j r b.1)

follows_if : (b : Bool) (n a c : ℕ) → (b ≡ true → chained (suc a) n ≤ suc c) → chained (suc a) (if b then n else 0) ≤ suc c
follows_if true n a c h = h refl
follows_if false n a c h = omega arith

follows_strict : (v : ℕ → ℕ) (l r i j : ℕ) → v l < v r → (i ≡ l) × (j ≡ r) → chained (suc (v i)) 2 ≤ suc (v j)
follows_strict v l r i j h e = let p = ap v e.0 in let q = ap v e.1 in omega arith

follows_weak : (v : ℕ → ℕ) (l r i j : ℕ) → v l ≤ v r → (i ≡ l) × (j ≡ r) → chained (suc (v i)) 1 ≤ suc (v j)
follows_weak v l r i j h e = let p = ap v e.0 in let q = ap v e.1 in omega arith

either_way : (v : ℕ → ℕ) (l r i j : ℕ) (a b : Bool) → are_ends l r i j ≡ a → are_ends r l i j ≡ b → v l ≡ v r → (a || b) ≡ true → chained (suc (v i)) 1 ≤ suc (v j)
either_way v l r i j true b p q h e = follows_weak v l r i j (omega arith) (ends_are l r i j p)
either_way v l r i j false true p q h e = follows_weak v r l i j (omega arith) (ends_are r l i j q)
either_way v l r i j false false p q h e = absurd (cc)

step_follows : (v : ℕ → ℕ) (c : Relation) (l r i j : ℕ) → Related c (v l) (v r) → chained (suc (v i)) (step_of c l r i j) ≤ suc (v j)
step_follows v Lt l r i j h = follows_if (are_ends l r i j) 2 (v i) (v j) (λ e. follows_strict v l r i j h (ends_are l r i j e))
step_follows v Le l r i j h = follows_if (are_ends l r i j) 1 (v i) (v j) (λ e. follows_weak v l r i j h (ends_are l r i j e))
step_follows v Eq l r i j h =
    follows_if (are_ends l r i j || are_ends r l i j) 1 (v i) (v j) (λ e. either_way v l r i j (are_ends l r i j) (are_ends r l i j) refl refl h e)

steps_follow : (v : ℕ → ℕ) (cs : List Constraint) (i j : ℕ) → All (Meets v) cs → chained (suc (v i)) (constraint_steps cs i j) ≤ suc (v j)
steps_follow v [] i j h = omega arith
steps_follow v (c ∷ cs) i j h =
    chained-max-le (suc (v i)) (step_of c.relation c.left.0 c.right.0 i j) (constraint_steps cs i j) (suc (v j))
    (step_follows v c.relation c.left.0 c.right.0 i j (h 0 c (omega arith)))
    (steps_follow v cs i j (λ k d p. h (suc k) d (omega arith)))

declared_follows : (levels : ℕ) (v : ℕ → ℕ) (i j : ℕ) → IsValuation levels v → ((i == 0) && (nat_le 1 j && nat_le j levels)) ≡ true → chained (suc (v i)) 2 ≤ suc (v j)
declared_follows levels v i j h e =
    let a = both_true (i == 0) (nat_le 1 j && nat_le j levels) e in
    let b = both_true (nat_le 1 j) (nat_le j levels) a.1 in
    let p : i ≡ 0 = eqb-true i 0 a.0 in
    let q : 1 ≤ j = grind (arith, nat_tests) in
    let r : j ≤ levels = grind (arith, nat_tests) in
    let z : v i ≡ 0 = subst (λ n. v n ≡ 0) (sym p) h.set in
    let o : 1 ≤ v j = h.declared j q r in
    omega arith

own_follows : (levels : ℕ) (v : ℕ → ℕ) (i j : ℕ) → IsValuation levels v → chained (suc (v i)) (own_step levels i j) ≤ suc (v j)
own_follows levels v i j h =
    chained-max-le (suc (v i)) (if i == j then 1 else 0) (if (i == 0) && (nat_le 1 j && nat_le j levels) then 2 else 0) (suc (v j))
    (follows_if (i == j) 1 (v i) (v j) (λ e. let p = ap v (eqb-true i j e) in omega arith))
    (follows_if ((i == 0) && (nat_le 1 j && nat_le j levels)) 2 (v i) (v j) (λ e. declared_follows levels v i j h e))

first_sound : (levels : ℕ) (cs : List Constraint) → IsSound levels cs (first_spans levels cs)
first_sound levels cs v solves i j =
    chained-max-le (suc (v i)) (own_step levels i j) (constraint_steps cs i j) (suc (v j))
    (own_follows levels v i j solves.valuation) (steps_follow v cs i j solves.meets)

closed_sound : (levels : ℕ) (cs : List Constraint) (s : ℕ → ℕ → ℕ) (k : ℕ) → IsSound levels cs s → IsSound levels cs (closed_below k s)
closed_sound levels cs s zero h = h
closed_sound levels cs s (suc k) h = λ v solves. follows-through v (closed_below k s) k (closed_sound levels cs s k h v solves)

-- the steps are among the spans

ends_self : (l r : ℕ) → are_ends l r l r ≡ true
ends_self l r = grind (arith, nat_tests)

step_back : (l r : ℕ) → step_of Eq l r r l ≡ 1
step_back l r = grind (arith, nat_tests)

step_in : (s : ℕ → ℕ → ℕ) (c : Relation) (l r : ℕ) → ((i j : ℕ) → step_of c l r i j ≤ s i j) → StepsIn s c l r
step_in s Lt l r h = let m = h l r in let e = ends_self l r in rw e at m
step_in s Le l r h = let m = h l r in let e = ends_self l r in rw e at m
step_in s Eq l r h =
    (let m = h l r in let e = ends_self l r in rw e at m, let m = h r l in let o = step_back l r in omega (arith, o))

steps_in : (s : ℕ → ℕ → ℕ) (cs : List Constraint) → ((i j : ℕ) → constraint_steps cs i j ≤ s i j) → All (λ c. StepsIn s c.relation c.left.0 c.right.0) cs
steps_in s [] h k d p = absurd (omega arith)
steps_in s (c ∷ cs) h zero d p = step_in s c.relation c.left.0 c.right.0 (λ i j. let m = h i j in omega arith)
steps_in s (c ∷ cs) h (suc k) d p = steps_in s cs (λ i j. let m = h i j in omega arith) k d (omega arith)

self_step : (levels i : ℕ) → 1 ≤ own_step levels i i
self_step levels i = grind (arith, nat_tests)

declared_step : (levels l : ℕ) → 1 ≤ l → l ≤ levels → 2 ≤ own_step levels 0 l
declared_step levels l h k = grind (arith, nat_tests)

first_steps : (levels : ℕ) (cs : List Constraint) → HasSteps levels cs (first_spans levels cs)
first_steps levels cs = record {
  itself = λ i h. let m = self_step levels i in omega arith;
  declared = λ l h k. let m = declared_step levels l h k in omega arith;
  constraints = steps_in (first_spans levels cs) cs (λ i j. omega arith);
}

closed_steps : (levels : ℕ) (cs : List Constraint) (s : ℕ → ℕ → ℕ) (k : ℕ) → HasSteps levels cs s → HasSteps levels cs (closed_below k s)
closed_steps levels cs s zero h = h
closed_steps levels cs s (suc k) h =
    has_steps-more levels cs (closed_below k s) (through (closed_below k s) k) (λ i j. omega arith) (closed_steps levels cs s k h)

-- where the constraints have a valuation, no level has a strict chain to itself, so closing level by level closes all

at_most_one : (a n : ℕ) → chained (suc a) n ≤ suc a → n ≤ 1
at_most_one a zero h = omega arith
at_most_one a (suc n) h = omega arith

closed_all : (levels : ℕ) (cs : List Constraint) (s : ℕ → ℕ → ℕ) → IsConsistent levels cs → IsSound levels cs s → HasSteps levels cs s →
    (k : ℕ) → k ≤ suc levels → (m : ℕ) → m < k → IsClosedAt levels (closed_below k s) m
closed_all levels cs s consistent sound steps zero h m less = absurd (omega arith)
closed_all levels cs s consistent sound steps (suc k) h m less =
    let follows = closed_sound levels cs s k sound consistent.0 consistent.1 in
    let most = at_most_one (consistent.0 k) (closed_below k s k k) (follows k k) in
    let least = (closed_steps levels cs s k steps).itself k (omega arith) in
    closed-step levels (closed_below k s) k (omega arith) (omega arith) (closed_all levels cs s consistent sound steps k (omega arith)) m (omega arith)

pub spans_closed : (levels : ℕ) (cs : List Constraint) → IsConsistent levels cs → IsClosed levels cs (spans levels cs)
spans_closed levels cs consistent = record {
  sound = closed_sound levels cs (first_spans levels cs) (suc levels) (first_sound levels cs);
  steps = closed_steps levels cs (first_spans levels cs) (suc levels) (first_steps levels cs);
  closed = λ m h. closed_all levels cs (first_spans levels cs) consistent (first_sound levels cs) (first_steps levels cs) (suc levels) (omega arith) m (omega arith);
}

-- the test of covering is that of the definition

part_covers : (s : ℕ → ℕ → ℕ) (l h : LevelExpr) → covers_part s l h ≡ true → Covers s l h
part_covers s l h e = grind (arith, nat_tests)

covers_is_part : (s : ℕ → ℕ → ℕ) (l h : LevelExpr) → Covers s l h → covers_part s l h ≡ true
covers_is_part s l h e = grind (arith, nat_tests)

some_of : (s : ℕ → ℕ → ℕ) (l h : LevelExpr) (hs : List LevelExpr) (b : Bool) → covers_part s l h ≡ b → (some_covers s l hs ≡ true → Any (Covers s l) hs) →
    (b || some_covers s l hs) ≡ true → Any (Covers s l) (h ∷ hs)
some_of s l h hs true p rest e = (0, h, omega arith, refl, part_covers s l h p)
some_of s l h hs false p rest e = let r = rest e in (suc r.0, r.1, omega (arith, r.2), r.3, r.4)

some_is : (s : ℕ → ℕ → ℕ) (l : LevelExpr) (hs : List LevelExpr) → some_covers s l hs ≡ true → Any (Covers s l) hs
some_is s l [] e = absurd (cc)
some_is s l (h ∷ hs) e = some_of s l h hs (covers_part s l h) refl (some_is s l hs) e

pub or_second : (a b : Bool) → b ≡ true → (a || b) ≡ true
or_second true b e = refl
or_second false b e = e

is_some_at : (s : ℕ → ℕ → ℕ) (l : LevelExpr) (hs : List LevelExpr) (k : ℕ) (x : LevelExpr) → k < length hs → get_or hs k x ≡ x → Covers s l x → some_covers s l hs ≡ true
is_some_at s l [] k x h e c = absurd (omega arith)
is_some_at s l (y ∷ hs) zero x h e c = ap (λ b. b || some_covers s l hs) (covers_is_part s l y (subst (Covers s l) (sym e) c))
is_some_at s l (y ∷ hs) (suc k) x h e c = or_second (covers_part s l y) (some_covers s l hs) (is_some_at s l hs k x (omega arith) e c)

covers_is : (s : ℕ → ℕ → ℕ) (low high : List LevelExpr) → covers s low high ≡ true → IsCovered s low high
covers_is s [] high e k d h = absurd (omega arith)
covers_is s (l ∷ ls) high e zero d h = some_is s l high (both_true (some_covers s l high) (covers s ls high) e).0
covers_is s (l ∷ ls) high e (suc k) d h = covers_is s ls high (both_true (some_covers s l high) (covers s ls high) e).1 k d (omega arith)

is_covers : (s : ℕ → ℕ → ℕ) (low high : List LevelExpr) → IsCovered s low high → covers s low high ≡ true
is_covers s [] high c = refl
is_covers s (l ∷ ls) high c =
    let first = c 0 l (omega arith) in
    and_from (some_covers s l high) (covers s ls high) (is_some_at s l high first.0 first.1 first.2 first.3 first.4)
    (is_covers s ls high (λ k d h. c (suc k) d (omega arith)))

-- what the test says holds, for any constraints
pub entailed_yes : (levels : ℕ) (cs : List Constraint) (low high : List LevelExpr) → entailed_by levels cs low high ≡ true → Entails levels cs low high
unfolding entailed_by
entailed_yes levels cs low high e =
    covered-entails levels cs (spans levels cs) low high
    (closed_sound levels cs (first_spans levels cs) (suc levels) (first_sound levels cs)) (covers_is (spans levels cs) low high e)

-- what is entailed the test says, where the constraints are consistent and speak of declared levels
pub entailed_all : (levels : ℕ) (cs : List Constraint) → IsConsistent levels cs → AreOver levels cs → (low high : List LevelExpr) → high ≢ [] →
    IsOver levels low → IsOver levels high → Entails levels cs low high → entailed_by levels cs low high ≡ true
unfolding entailed_by
entailed_all levels cs consistent over low high some low_over high_over e =
    is_covers (spans levels cs) low high
    (entails-covered levels cs (spans levels cs) over (spans_closed levels cs consistent) low high some low_over high_over e)

-- so it decides
pub entailed_decides : (levels : ℕ) (cs : List Constraint) → IsConsistent levels cs → AreOver levels cs → IsTest levels cs (entailed_by levels cs)
entailed_decides levels cs consistent over = record {
  yes = entailed_yes levels cs;
  no = λ low high some low_over high_over e h. let t = entailed_all levels cs consistent over low high some low_over high_over h in cc;
}

-- a test that is true exactly where the entailment holds is this test
is_test : (b t : Bool) (P : Type 0) → (IsTrue b ↔ P) → (t ≡ true → P) → (P → t ≡ true) → b ≡ t
is_test true t P h says all = sym (all (h.0 refl))
is_test false true P h says all = absurd (let e = h.1 (says refl) in cc)
is_test false false P h says all = refl

pub test_is : (levels : ℕ) (cs : List Constraint) → IsConsistent levels cs → AreOver levels cs → (low high : List LevelExpr) → high ≢ [] →
    IsOver levels low → IsOver levels high → (b : Bool) → (IsTrue b ↔ Entails levels cs low high) → b ≡ entailed_by levels cs low high
test_is levels cs consistent over low high some low_over high_over b h =
    is_test b (entailed_by levels cs low high) (Entails levels cs low high) h (entailed_yes levels cs low high)
    (entailed_all levels cs consistent over low high some low_over high_over)
