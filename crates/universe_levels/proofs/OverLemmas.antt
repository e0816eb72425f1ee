-- Universes and sorts made of others speak of no further levels.
use Rattle.std.proofs.Common.{ℕ, ◌≤◌, List, [], ◌∷◌, ◌++◌, inl, inr, sym, subst, arith}
use Rattle.std.proofs.lemmas.Bool.{cases_order}
use Rattle.std.proofs.lemmas.List.Elements.{All-nil, All-cons, All-head, All-tail, All-append, All-map}
use Rattle.universe_levels.specs.declared.level.LevelExpr.{LevelExpr}
use Rattle.universe_levels.specs.declared.sort.Sort.{Sort}
use Rattle.universe_levels.specs.declared.sort.Sort.TheVariants.{Prop, Of}
use Rattle.universe_levels.specs.Maximum.{with_part, with_parts, maximum_of}
use Rattle.universe_levels.specs.Parts.{raised}
use Rattle.universe_levels.specs.Sorts.{super_sort, product_sort}
use Rattle.universe_levels.specs.Consistency.{IsOver, IsSortOver}
use Rattle.universe_levels.proofs.MaximumLemmas.{with_part-before, with_part-at, with_part-after}

pub over-with_part : (n : ℕ) (e : LevelExpr) (ps : List LevelExpr) → e.level.0 ≤ n → IsOver n ps → IsOver n (with_part e ps)
over-with_part n e [] h over = All-cons (λ q. q.level.0 ≤ n) e [] h over
over-with_part n e (p ∷ ps) h over =
    let first : p.level.0 ≤ n = All-head (λ q. q.level.0 ≤ n) p ps over in
    let rest : IsOver n ps = All-tail (λ q. q.level.0 ≤ n) p ps over in
    elim (cases_order e.level.0 p.level.0) [
      | inl l ↦ subst (IsOver n) (sym (with_part-at e p ps l)) (All-cons (λ q. q.level.0 ≤ n) _ ps first rest)
      | inr q ↦ elim q [
        | inl l ↦ subst (IsOver n) (sym (with_part-before e p ps l)) (All-cons (λ q. q.level.0 ≤ n) e (p ∷ ps) h over)
        | inr l ↦ subst (IsOver n) (sym (with_part-after e p ps l)) (All-cons (λ q. q.level.0 ≤ n) p (with_part e ps) first (over-with_part n e ps h rest))
      ]
    ]

pub over-with_parts : (n : ℕ) (ps es : List LevelExpr) → IsOver n ps → IsOver n es → IsOver n (with_parts ps es)
over-with_parts n ps [] over more = over
over-with_parts n ps (e ∷ es) over more =
    over-with_parts n (with_part e ps) es (over-with_part n e ps (All-head (λ q. q.level.0 ≤ n) e es more) over) (All-tail (λ q. q.level.0 ≤ n) e es more)

pub over-maximum_of : (n : ℕ) (es : List LevelExpr) → IsOver n es → IsOver n (maximum_of es)
over-maximum_of n es over = over-with_parts n [] es (All-nil _) over

pub over-super_sort : (n : ℕ) (s : Sort) → IsSortOver n s → IsSortOver n (super_sort s)
over-super_sort n Prop over = All-cons (λ q. q.level.0 ≤ n) _ [] (omega arith) (All-nil _)
over-super_sort n (Of u) over = All-map (λ q. q.level.0 ≤ n) raised u over

pub over-product_sort : (n : ℕ) (s t : Sort) → IsSortOver n s → IsSortOver n t → IsSortOver n (product_sort s t)
over-product_sort n Prop Prop over more = tt
over-product_sort n Prop (Of v) over more = more
over-product_sort n (Of u) Prop over more = tt
over-product_sort n (Of u) (Of v) over more = over-maximum_of n (u ++ v) (All-append (λ q. q.level.0 ≤ n) u v over more)
