-- Each valuation that meets constraints has one that is bounded by the number of levels: the rank of each level's value.
use Rattle.std.proofs.Common.{◌≡◌, ℕ, zero, suc, ◌+◌, ◌<◌, ◌≤◌, inl, inr, nat_lt, if◌then◌else◌, List, refl, ap, ◌∙◌, arith}
use Rattle.std.proofs.lemmas.Bool.{cases_lt, cases_order}
use Rattle.std.proofs.lemmas.Bool.Decides.{nat_tests}
use Rattle.universe_levels.specs.declared.constraint.Constraint.{Constraint}
use Rattle.universe_levels.specs.declared.constraint.Relation.{Relation}
use Rattle.universe_levels.specs.declared.constraint.Relation.TheVariants.{Lt, Le, Eq}
use Rattle.universe_levels.specs.Valuation.{Related}
use Rattle.universe_levels.specs.Consistency.{Solves, AreOver}

-- how many of the first n levels have a value below x
pub below : (ℕ → ℕ) → ℕ → ℕ → ℕ
below v zero x = 0
below v (suc m) x = below v m x + (if nat_lt (v m) x then 1 else 0)

pub ranked : ℕ → (ℕ → ℕ) → ℕ → ℕ
ranked levels v l = below v (suc levels) (v l)

below-yes : (v : ℕ → ℕ) (m x : ℕ) → v m < x → below v (suc m) x ≡ below v m x + 1
unfolding below
below-yes v m x h = grind (arith, nat_tests)

below-no : (v : ℕ → ℕ) (m x : ℕ) → x ≤ v m → below v (suc m) x ≡ below v m x
unfolding below
below-no v m x h = grind (arith, nat_tests)

below-le : (v : ℕ → ℕ) (n x : ℕ) → below v n x ≤ n
unfolding below
below-le v zero x = omega arith
below-le v (suc m) x =
    let h : below v m x ≤ m = below-le v m x in
    elim (cases_lt (v m) x) [ inl l ↦ omega (arith, below-yes v m x l) | inr l ↦ omega (arith, below-no v m x l) ]

below-mono : (v : ℕ → ℕ) (n x y : ℕ) → x ≤ y → below v n x ≤ below v n y
unfolding below
below-mono v zero x y h = omega arith
below-mono v (suc m) x y h =
    let before : below v m x ≤ below v m y = below-mono v m x y h in
    elim (cases_lt (v m) x) [
      | inl l ↦ omega (arith, below-yes v m x l, below-yes v m y (omega arith))
      | inr l ↦ elim (cases_lt (v m) y) [
        | inl k ↦ omega (arith, below-no v m x l, below-yes v m y k)
        | inr k ↦ omega (arith, below-no v m x l, below-no v m y k)
      ]
    ]

below-strict : (v : ℕ → ℕ) (n m y : ℕ) → m < n → v m < y → below v n (v m) < below v n y
unfolding below
below-strict v zero m y h l = absurd (omega arith)
below-strict v (suc n) m y h l =
    elim (cases_order m n) [
      | inl e ↦
          let here : v m ≡ v n = ap v e in
          let mono : below v n (v m) ≤ below v n y = below-mono v n (v m) y (omega arith) in
          omega (arith, below-no v n (v m) (omega arith), below-yes v n y (omega arith))
      | inr q ↦ elim q [
        | inl k ↦
            let before : below v n (v m) < below v n y = below-strict v n m y k l in
            elim (cases_lt (v n) (v m)) [
              | inl p ↦ omega (arith, below-yes v n (v m) p, below-yes v n y (omega arith))
              | inr p ↦ elim (cases_lt (v n) y) [
                | inl p' ↦ omega (arith, below-no v n (v m) p, below-yes v n y p')
                | inr p' ↦ omega (arith, below-no v n (v m) p, below-no v n y p')
              ]
            ]
        | inr k ↦ absurd (omega arith)
      ]
    ]

below-zero : (v : ℕ → ℕ) (n : ℕ) → below v n 0 ≡ 0
unfolding below
below-zero v zero = refl
below-zero v (suc m) = omega (arith, below-no v m 0 (omega arith), below-zero v m)

pub ranked-le : (levels : ℕ) (v : ℕ → ℕ) (l : ℕ) → ranked levels v l ≤ levels + 1
unfolding ranked
ranked-le levels v l = let h = below-le v (suc levels) (v l) in omega arith

ranked-related : (levels : ℕ) (v : ℕ → ℕ) (r : Relation) (i j : ℕ) → i ≤ levels → Related r (v i) (v j) → Related r (ranked levels v i) (ranked levels v j)
unfolding ranked
ranked-related levels v Lt i j h m = below-strict v (suc levels) i (v j) (omega arith) m
ranked-related levels v Le i j h m = below-mono v (suc levels) (v i) (v j) m
ranked-related levels v Eq i j h m = ap (below v (suc levels)) m

pub ranked-solves : (levels : ℕ) (cs : List Constraint) (v : ℕ → ℕ) → AreOver levels cs → Solves levels cs v → Solves levels cs (ranked levels v)
unfolding ranked
ranked-solves levels cs v over solves = record {
  valuation = record {
    set = ap (below v (suc levels)) solves.valuation.set ∙ below-zero v (suc levels);
    declared = λ l h k.
        let positive : 1 ≤ v l = solves.valuation.declared l h k in
        let least : below v (suc levels) (v 0) < below v (suc levels) (v l) = below-strict v (suc levels) 0 (v l) (omega arith) (omega (arith, solves.valuation.set)) in
        omega arith;
  };
  meets = λ k d h. ranked-related levels v _ _ _ (over k d h).0 (solves.meets k d h);
}
