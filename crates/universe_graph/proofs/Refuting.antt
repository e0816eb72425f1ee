-- Closed spans decide: they give a valuation, and where they don't entail an order a valuation that refutes it.
use Rattle.std.proofs.Common.{◌≡◌, ◌≢◌, ℕ, zero, suc, ◌+◌, ◌-◌, ◌<◌, ◌≤◌, ◌⊎◌, inl, inr, max, List, [], ◌∷◌, length, get_or, refl, sym, ap, subst, ◌∙◌, arith}
use Rattle.std.specs.List.{All, Any}
use Rattle.std.proofs.lemmas.Bool.{cases_eq, cases_lt}
use Rattle.std.proofs.lemmas.List.Elements.{All-cons, All-head, All-tail}
use Rattle.universe_levels.specs.declared.constraint.Constraint.{Constraint}
use Rattle.universe_levels.specs.declared.constraint.Relation.{Relation}
use Rattle.universe_levels.specs.declared.constraint.Relation.TheVariants.{Lt, Le, Eq}
use Rattle.universe_levels.specs.declared.level.LevelExpr.{LevelExpr}
use Rattle.universe_levels.specs.Valuation.{Related, value_of, value_of_part}
use Rattle.universe_levels.specs.Consistency.{Solves, AreOver, Entails, IsOver}
use Rattle.universe_graph.specs.Spans.{chained, Covers, IsCovered}
use Rattle.universe_graph.specs.Closure.{Follows, IsSound, StepsIn, HasSteps, IsClosed}
use Rattle.universe_graph.proofs.Chains.{one-chained, chained_assoc, chained-le, chained-sum, chained_some, max-chained-le}

-- a row of numbers, one more than the values of a valuation, that no span passes
record Row (levels : ℕ) (s : ℕ → ℕ → ℕ) (w : ℕ → ℕ) : Type 0 where
  set : w 0 ≡ 1
  some : (i : ℕ) → i ≤ levels → 1 ≤ w i
  chains : (i j : ℕ) → i ≤ levels → j ≤ levels → chained (w i) (s i j) ≤ w j

values : (ℕ → ℕ) → ℕ → ℕ
values w i = w i - 1

row-step : (levels : ℕ) (s : ℕ → ℕ → ℕ) (w : ℕ → ℕ) → Row levels s w → (n i j : ℕ) → i ≤ levels → j ≤ levels → suc n ≤ s i j → values w i + n ≤ values w j
unfolding values
row-step levels s w row n i j hi hj h =
    let a : 1 ≤ w i = row.some i hi in
    let b : 1 ≤ w j = row.some j hj in
    let c : chained (w i) (s i j) ≤ w j = row.chains i j hi hj in
    omega (arith, chained-sum (w i) (s i j) a (omega arith))

row-related : (levels : ℕ) (s : ℕ → ℕ → ℕ) (w : ℕ → ℕ) → Row levels s w → (r : Relation) (i j : ℕ) → i ≤ levels → j ≤ levels → StepsIn s r i j
    → Related r (values w i) (values w j)
row-related levels s w row Lt i j hi hj h = let step = row-step levels s w row 1 i j hi hj h in omega arith
row-related levels s w row Le i j hi hj h = let step = row-step levels s w row 0 i j hi hj h in omega arith
row-related levels s w row Eq i j hi hj h =
    let there = row-step levels s w row 0 i j hi hj h.0 in
    let back = row-step levels s w row 0 j i hj hi h.1 in
    omega arith

row-solves : (levels : ℕ) (cs : List Constraint) (s : ℕ → ℕ → ℕ) (w : ℕ → ℕ) → AreOver levels cs → HasSteps levels cs s → Row levels s w → Solves levels cs (values w)
unfolding values
row-solves levels cs s w over steps row = record {
  valuation = record {
    set = omega (arith, row.set);
    declared = λ l h k.
        let step = row-step levels s w row 1 0 l (omega arith) k (steps.declared l h k) in omega (arith, row.set);
  };
  meets = λ k d h. row-related levels s w row _ _ _ (over k d h).0 (over k d h).1 (steps.constraints k d h);
}

-- the spans from Set are such a row
from_set : (levels : ℕ) (cs : List Constraint) (s : ℕ → ℕ → ℕ) → IsClosed levels cs s → Row levels s (s 0)
from_set levels cs s closed = record {
  set = let a = closed.steps.itself 0 (omega arith) in let b = (closed.closed 0 (omega arith)).itself in omega arith;
  some = λ i h. elim (cases_eq i 0) [
    | inl e ↦ subst (λ m. 1 ≤ s 0 m) (sym e) (closed.steps.itself 0 (omega arith))
    | inr n ↦ let a = closed.steps.declared i (omega arith) h in omega arith
  ];
  chains = λ i j hi hj. (closed.closed i hi).chains 0 j (omega arith) hj;
}

pub closed-consistent : (levels : ℕ) (cs : List Constraint) (s : ℕ → ℕ → ℕ) → AreOver levels cs → IsClosed levels cs s → (v : ℕ → ℕ) × Solves levels cs v
closed-consistent levels cs s over closed = (values (s 0), row-solves levels cs s (s 0) over closed.steps (from_set levels cs s closed))

-- the row that makes level l at least m and all others as small as that allows
raised_row : (ℕ → ℕ → ℕ) → ℕ → ℕ → ℕ → ℕ
raised_row s l m r = max (s 0 r) (chained (suc m) (s l r))

-- no chain leads from a declared level to Set
unreached : (levels : ℕ) (cs : List Constraint) (s : ℕ → ℕ → ℕ) → IsClosed levels cs s → (l : ℕ) → 1 ≤ l → l ≤ levels → s l 0 ≡ 0
unreached levels cs s closed l h k =
    let up : 2 ≤ s 0 l = closed.steps.declared l h k in
    let round : chained (s 0 l) (s l 0) ≤ s 0 0 = (closed.closed l k).chains 0 0 (omega arith) (omega arith) in
    let unit : s 0 0 ≤ 1 = (closed.closed 0 (omega arith)).itself in
    elim (cases_eq (s l 0) 0) [
      | inl e ↦ e
      | inr n ↦ absurd (omega (arith, chained-sum (s 0 l) (s l 0) (omega arith) (omega arith)))
    ]

raised-row : (levels : ℕ) (cs : List Constraint) (s : ℕ → ℕ → ℕ) → IsClosed levels cs s → (l m : ℕ) → l ≤ levels → (l ≡ 0 → m ≡ 0) → Row levels s (raised_row s l m)
unfolding raised_row
raised-row levels cs s closed l m h least =
    let base : Row levels s (s 0) = from_set levels cs s closed in
    record {
      set = elim (cases_eq l 0) [
        | inl e ↦
            let same : s l 0 ≡ s 0 0 = ap (λ i. s i 0) e in
            let none : m ≡ 0 = least e in
            let way : chained (suc m) (s l 0) ≡ 1 = ap (λ n. chained (suc n) (s l 0)) none ∙ one-chained (s l 0) ∙ same ∙ base.set in
            omega (arith, base.set)
        | inr n ↦
            let way : chained (suc m) (s l 0) ≡ 0 = ap (chained (suc m)) (unreached levels cs s closed l (omega arith) h) in
            omega (arith, base.set)
      ];
      some = λ i hi. let a = base.some i hi in omega arith;
      chains = λ i j hi hj.
          let first : chained (s 0 i) (s i j) ≤ s 0 j = base.chains i j hi hj in
          let second : chained (s l i) (s i j) ≤ s l j = (closed.closed i hi).chains l j h hj in
          let third : chained (suc m) (chained (s l i) (s i j)) ≤ chained (suc m) (s l j) = chained-le (suc m) _ (suc m) _ (omega arith) second in
          let fourth : chained (chained (suc m) (s l i)) (s i j) ≤ chained (suc m) (s l j) = subst (λ n. n ≤ chained (suc m) (s l j)) (sym (chained_assoc (suc m) (s l i) (s i j))) third in
          max-chained-le (s 0 i) (chained (suc m) (s l i)) (s i j) _ (omega arith) (omega arith);
    }

-- a universe's value is at least that of each of its level expressions, and less than a number that is above each
part-le-value : (v : ℕ → ℕ) (ps : List LevelExpr) (k : ℕ) (d : LevelExpr) → k < length ps → value_of_part v (get_or ps k d) ≤ value_of v ps
part-le-value v [] k d h = absurd (omega arith)
part-le-value v (p ∷ ps) zero d h = omega arith
part-le-value v (p ∷ ps) (suc k) d h = let rest = part-le-value v ps k d (omega arith) in omega arith

value-below : (v : ℕ → ℕ) (ps : List LevelExpr) (n : ℕ) → 0 < n → All (λ p. value_of_part v p < n) ps → value_of v ps < n
value-below v [] n h all = h
value-below v (p ∷ ps) n h all =
    let first = All-head (λ p. value_of_part v p < n) p ps all in
    let rest = value-below v ps n h (All-tail (λ p. value_of_part v p < n) p ps all) in
    omega arith

value-le : (v : ℕ → ℕ) (ps : List LevelExpr) (n : ℕ) → All (λ p. value_of_part v p ≤ n) ps → value_of v ps ≤ n
value-le v [] n all = omega arith
value-le v (p ∷ ps) n all =
    let first = All-head (λ p. value_of_part v p ≤ n) p ps all in
    let rest = value-le v ps n (All-tail (λ p. value_of_part v p ≤ n) p ps all) in
    omega arith

-- what the spans cover is entailed
covered-le : (v : ℕ → ℕ) (s : ℕ → ℕ → ℕ) → Follows v s → (l h : LevelExpr) → Covers s l h → value_of_part v l ≤ value_of_part v h
covered-le v s follows l h c =
    let there = chained_some (suc h.add) (s l.level.0 h.level.0) l.add c in
    let step = follows l.level.0 h.level.0 in
    omega (arith, chained-sum (suc h.add) (s l.level.0 h.level.0) there.0 there.1, chained-sum (suc (v l.level.0)) (s l.level.0 h.level.0) (omega arith) there.1)

pub covered-entails : (levels : ℕ) (cs : List Constraint) (s : ℕ → ℕ → ℕ) (low high : List LevelExpr) → IsSound levels cs s → IsCovered s low high → Entails levels cs low high
covered-entails levels cs s low high sound covered = λ v solves.
    value-le v low (value_of v high) (λ k d h.
    let found = covered k d h in
    let one : value_of_part v (get_or low k d) ≤ value_of_part v found.1 = covered-le v s (sound v solves) _ _ found.4 in
    let most : value_of_part v (get_or high found.0 found.1) ≤ value_of v high = part-le-value v high found.0 found.1 found.2 in
    let same : value_of_part v (get_or high found.0 found.1) ≡ value_of_part v found.1 = ap (value_of_part v) found.3 in
    omega arith)

-- what the spans don't cover is refuted
record Refutes (s : ℕ → ℕ → ℕ) (l m : ℕ) (a : ℕ) (h : LevelExpr) : Type 0 where
  way : chained (suc h.add) (s l h.level.0) ≤ a
  base : values (s 0) h.level.0 + h.add < m + a

refuted-part : (levels : ℕ) (s : ℕ → ℕ → ℕ) (l m a : ℕ) (h : LevelExpr) → 1 ≤ s 0 h.level.0 → Refutes s l m a h → value_of_part (values (raised_row s l m)) h < m + a
unfolding values raised_row
refuted-part levels s l m a h some r =
    let b = r.base in
    let way = r.way in
    elim (cases_eq (s l h.level.0) 0) [
      | inl e ↦ let none : chained (suc m) (s l h.level.0) ≡ 0 = ap (chained (suc m)) e in omega arith
      | inr n ↦ omega (arith, chained-sum (suc m) (s l h.level.0) (omega arith) (omega arith), chained-sum (suc h.add) (s l h.level.0) (omega arith) (omega arith))
    ]

own-part : (levels : ℕ) (cs : List Constraint) (s : ℕ → ℕ → ℕ) → IsClosed levels cs s → (l m : ℕ) → l ≤ levels → m ≤ values (raised_row s l m) l
unfolding values raised_row
own-part levels cs s closed l m h =
    let itself = closed.steps.itself l h in
    omega (arith, chained-sum (suc m) (s l l) (omega arith) itself)

-- either one of the level expressions covers it, or none does
found-cover : (s : ℕ → ℕ → ℕ) (l : LevelExpr) (high : List LevelExpr)
    → Any (Covers s l) high ⊎ All (λ h. chained (suc h.add) (s l.level.0 h.level.0) ≤ l.add) high
found-cover s l [] = inr (λ k d h. absurd (omega arith))
found-cover s l (h ∷ hs) =
    elim (cases_lt l.add (chained (suc h.add) (s l.level.0 h.level.0))) [
      | inl c ↦ inl (0, h, omega arith, refl, c)
      | inr n ↦ elim (found-cover s l hs) [
        | inl f ↦ inl (suc f.0, f.1, omega (arith, f.2), f.3, f.4)
        | inr all ↦ inr (All-cons (λ h. chained (suc h.add) (s l.level.0 h.level.0) ≤ l.add) h hs n all)
      ]
    ]

-- a valuation that makes the level expression greater than the universe
record Refuting (levels : ℕ) (cs : List Constraint) (l : LevelExpr) (high : List LevelExpr) : Type 0 where
  value : ℕ → ℕ
  solves : Solves levels cs value
  greater : value_of value high < value_of_part value l

refuted : (levels : ℕ) (cs : List Constraint) (s : ℕ → ℕ → ℕ) → AreOver levels cs → IsClosed levels cs s → (l : LevelExpr) (high : List LevelExpr)
    → l.level.0 ≤ levels → IsOver levels high → (m : ℕ) → (l.level.0 ≡ 0 → m ≡ 0) → 0 < m + l.add
    → All (Refutes s l.level.0 m l.add) high → Refuting levels cs l high
refuted levels cs s over closed l high hl hh m least positive all =
    let row : Row levels s (raised_row s l.level.0 m) = raised-row levels cs s closed l.level.0 m hl least in
    let base : Row levels s (s 0) = from_set levels cs s closed in
    let own : m ≤ values (raised_row s l.level.0 m) l.level.0 = own-part levels cs s closed l.level.0 m hl in
    let each : All (λ h. value_of_part (values (raised_row s l.level.0 m)) h < m + l.add) high =
    λ k d h. refuted-part levels s l.level.0 m l.add (get_or high k d) (base.some _ (hh k d h)) (all k d h) in
    let less : value_of (values (raised_row s l.level.0 m)) high < m + l.add = value-below _ high (m + l.add) positive each in
    record { value = values (raised_row s l.level.0 m); solves = row-solves levels cs s _ over closed.steps row; greater = omega arith }

uncovered : (levels : ℕ) (cs : List Constraint) (s : ℕ → ℕ → ℕ) → AreOver levels cs → IsClosed levels cs s → (l : LevelExpr) (high : List LevelExpr)
    → high ≢ [] → l.level.0 ≤ levels → IsOver levels high → All (λ h. chained (suc h.add) (s l.level.0 h.level.0) ≤ l.add) high → Refuting levels cs l high
unfolding values
uncovered levels cs s over closed l [] some hl hh none = absurd (some refl)
uncovered levels cs s over closed l (h ∷ hs) some hl hh none =
    let base : Row levels s (s 0) = from_set levels cs s closed in
    elim (cases_eq l.level.0 0) [
      | inl e ↦
          let all : All (Refutes s l.level.0 0 l.add) (h ∷ hs) = λ k d i.
          let way : chained (suc (get_or (h ∷ hs) k d).add) (s l.level.0 (get_or (h ∷ hs) k d).level.0) ≤ l.add = none k d i in
          let there : 1 ≤ s 0 (get_or (h ∷ hs) k d).level.0 = base.some _ (hh k d i) in
          let from : s l.level.0 (get_or (h ∷ hs) k d).level.0 ≡ s 0 (get_or (h ∷ hs) k d).level.0 = ap (λ n. s n (get_or (h ∷ hs) k d).level.0) e in
          record { way = way; base = omega (arith, chained-sum (suc (get_or (h ∷ hs) k d).add) (s l.level.0 (get_or (h ∷ hs) k d).level.0) (omega arith) (omega arith)) } in
          let one : Refutes s l.level.0 0 l.add h = all 0 h (omega arith) in
          let bound = one.base in
          refuted levels cs s over closed l (h ∷ hs) hl hh 0 (λ _. refl) (omega arith) all
      | inr n ↦
          let m : ℕ = suc (value_of (values (s 0)) (h ∷ hs)) in
          let all : All (Refutes s l.level.0 m l.add) (h ∷ hs) = λ k d i.
          record { way = none k d i; base = let most = part-le-value (values (s 0)) (h ∷ hs) k d i in omega arith } in
          refuted levels cs s over closed l (h ∷ hs) hl hh m (λ e. absurd (n e)) (omega arith) all
    ]

pub entails-covered : (levels : ℕ) (cs : List Constraint) (s : ℕ → ℕ → ℕ) → AreOver levels cs → IsClosed levels cs s → (low high : List LevelExpr)
    → high ≢ [] → IsOver levels low → IsOver levels high → Entails levels cs low high → IsCovered s low high
entails-covered levels cs s over closed low high some hl hh entails = λ k d i.
    elim (found-cover s (get_or low k d) high) [
      | inl f ↦ f
      | inr none ↦
          let r : Refuting levels cs (get_or low k d) high = uncovered levels cs s over closed (get_or low k d) high some (hl k d i) hh none in
          let le : value_of r.value low ≤ value_of r.value high = entails r.value r.solves in
          let part : value_of_part r.value (get_or low k d) ≤ value_of r.value low = part-le-value r.value low k d i in
          let more = r.greater in
          absurd (omega arith)
    ]
