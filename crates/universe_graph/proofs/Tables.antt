-- Reads and writes of a table of spans.
use Rattle.std.proofs.Common.{◌≡◌, ◌≢◌, ℕ, suc, ◌<◌, ◌≤◌, inl, inr, max, List, [], length, get_or, set, replicate, sym, ap, subst, ◌∙◌, arith}
use Rattle.std.proofs.lemmas.Bool.{cases_eq, cases_lt}
use Rattle.std.proofs.lemmas.Grind.{common_steps}
use Rattle.std.proofs.lemmas.List.{get_or-set_same}
use Rattle.std.proofs.lemmas.List.Elements.{All-set}
use Rattle.universe_graph.specs.Spans.{chained, span, IsSquare, HasOffered}
use Rattle.universe_graph.specs.Closure.{Follows}
use Rattle.universe_graph.proofs.Chains.{chained-max-le}

pub span-set_same : (rows : List (List ℕ)) (i j : ℕ) (row : List ℕ) → i < length rows → span (set rows i row) i j ≡ get_or row j 0
span-set_same rows i j row h = ap (λ r. get_or r j 0) (get_or-set_same rows i row [] h)

pub span-set_other : (rows : List (List ℕ)) (i k j : ℕ) (row : List ℕ) → k ≢ i → span (set rows i row) k j ≡ span rows k j
span-set_other rows i k j row h = ap (λ r. get_or r j 0) (grind (arith, common_steps))

pub square-set : (rows : List (List ℕ)) (i : ℕ) (row : List ℕ) → length row ≡ length rows → IsSquare rows → IsSquare (set rows i row)
square-set rows i row h square = λ k d l.
    let same : length (set rows i row) ≡ length rows = grind (arith, common_steps) in
    All-set (λ r. length r ≡ length rows) rows i row h square k d l ∙ sym same

pub offered : (rows : List (List ℕ)) (from to size : ℕ) → from < length rows → to < length (get_or rows from [])
    → HasOffered (span rows) (span (set rows from (set (get_or rows from []) to (max (span rows from to) size)))) from to size
offered rows from to size h k = record {
  here = span-set_same rows from to _ h ∙ grind (arith, common_steps);
  others = λ i j other.
      elim (cases_eq i from) [
        | inl e ↦
            let not : j ≢ to = λ e'. other (e, e') in
            subst (λ n. span (set rows from (set (get_or rows from []) to (max (span rows from to) size))) n j ≡ span rows n j) (sym e)
            (span-set_same rows from j _ h ∙ grind (arith, common_steps))
        | inr n ↦ span-set_other rows from i j _ n
      ];
}

-- what an offered span keeps
pub offered-more : (s t : ℕ → ℕ → ℕ) (from to size : ℕ) → HasOffered s t from to size → (i j : ℕ) → s i j ≤ t i j
offered-more s t from to size o i j =
    elim (cases_eq i from) [
      | inl e ↦ elim (cases_eq j to) [
        | inl e' ↦ subst (λ n. s n j ≤ t n j) (sym e) (subst (λ n. s from n ≤ t from n) (sym e') (let h = o.here in omega arith))
        | inr n ↦ let h = o.others i j (λ p. n p.1) in omega arith
      ]
      | inr n ↦ let h = o.others i j (λ p. n p.0) in omega arith
    ]

pub offered-least : (s t : ℕ → ℕ → ℕ) (from to size : ℕ) → HasOffered s t from to size → size ≤ t from to
offered-least s t from to size o = let h = o.here in omega arith

pub offered-within : (s t : ℕ → ℕ → ℕ) (from to size n : ℕ) → HasOffered s t from to size → size ≤ n → ((i j : ℕ) → s i j ≤ n) → (i j : ℕ) → t i j ≤ n
offered-within s t from to size n o h within i j =
    let old = within i j in
    elim (cases_eq i from) [
      | inl e ↦ elim (cases_eq j to) [
        | inl e' ↦ subst (λ m. t m j ≤ n) (sym e) (subst (λ m. t from m ≤ n) (sym e') (let here = o.here in let before = within from to in omega arith))
        | inr d ↦ let h = o.others i j (λ p. d p.1) in omega arith
      ]
      | inr d ↦ let h = o.others i j (λ p. d p.0) in omega arith
    ]

pub offered-follows : (v : ℕ → ℕ) (s t : ℕ → ℕ → ℕ) (from to size : ℕ) → HasOffered s t from to size → chained (suc (v from)) size ≤ suc (v to) → Follows v s → Follows v t
offered-follows v s t from to size o h follows = λ i j.
    elim (cases_eq i from) [
      | inl e ↦ elim (cases_eq j to) [
        | inl e' ↦
            subst (λ m. chained (suc (v m)) (t m j) ≤ suc (v j)) (sym e) (subst (λ m. chained (suc (v from)) (t from m) ≤ suc (v m)) (sym e')
            (subst (λ m. chained (suc (v from)) m ≤ suc (v to)) (sym o.here) (chained-max-le (suc (v from)) (s from to) size (suc (v to)) (follows from to) h)))
        | inr d ↦ subst (λ m. chained (suc (v i)) m ≤ suc (v j)) (sym (o.others i j (λ p. d p.1))) (follows i j)
      ]
      | inr d ↦ subst (λ m. chained (suc (v i)) m ≤ suc (v j)) (sym (o.others i j (λ p. d p.0))) (follows i j)
    ]

-- a table without chains
pub span-blank : (width i j : ℕ) → span (replicate width (replicate width 0)) i j ≡ 0
span-blank width i j =
    elim (cases_lt i width) [
      | inl h ↦
          let row : get_or (replicate width (replicate width 0)) i [] ≡ replicate width 0 = grind (arith, common_steps) in
          let item : get_or (replicate width 0) j 0 ≡ 0 = elim (cases_lt j width) [ inl k ↦ grind (arith, common_steps) | inr k ↦ grind (arith, common_steps) ] in
          ap (λ r. get_or r j 0) row ∙ item
      | inr h ↦
          let row : get_or (replicate width (replicate width 0)) i [] ≡ [] = grind (arith, common_steps) in
          ap (λ r. get_or r j 0) row
    ]
