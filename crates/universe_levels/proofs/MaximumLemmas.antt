-- Lemmas on the maximum of level expressions.
use Rattle.std.proofs.Common.{◌≡◌, ◌≢◌, ℕ, zero, suc, ◌<◌, ◌≤◌, max, List, [], ◌∷◌, ◌++◌, inl, inr, length, take, get_or, refl, sym, ap, ◌∙◌, subst, arith}
use Rattle.std.specs.List.{All}
use Rattle.std.proofs.lemmas.Grind.{common_steps, elements}
use Rattle.std.proofs.lemmas.Bool.Decides.{nat_tests}
use Rattle.std.proofs.lemmas.Bool.{cases_order}
use Rattle.std.proofs.lemmas.List.{take_more}
use Rattle.std.proofs.lemmas.List.Elements.{All-nil, All-cons, All-head, All-tail}
use Rattle.universe_levels.specs.declared.level.LevelExpr.{LevelExpr}
use Rattle.universe_levels.specs.Maximum.{IsRising, IsNormal, with_part, with_parts, maximum_of}
use Rattle.universe_levels.specs.Valuation.{value_of, value_of_part}

-- what one step of `with_part` does
pub with_part-before : (e p : LevelExpr) (ps : List LevelExpr) → e.level.0 < p.level.0 → with_part e (p ∷ ps) ≡ e ∷ p ∷ ps
with_part-before e p ps h = grind (arith, nat_tests)

pub with_part-at : (e p : LevelExpr) (ps : List LevelExpr) → e.level.0 ≡ p.level.0 → with_part e (p ∷ ps) ≡ record { level = p.level; add = max p.add e.add } ∷ ps
with_part-at e p ps h = grind (arith, nat_tests)

pub with_part-after : (e p : LevelExpr) (ps : List LevelExpr) → p.level.0 < e.level.0 → with_part e (p ∷ ps) ≡ p ∷ with_part e ps
with_part-after e p ps h = grind (arith, nat_tests)

-- the value of a universe with one more part
pub value_of-with_part : (v : ℕ → ℕ) (e : LevelExpr) (ps : List LevelExpr) → value_of v (with_part e ps) ≡ max (value_of_part v e) (value_of v ps)
value_of-with_part v e [] = refl
value_of-with_part v e (p ∷ ps) =
    elim (cases_order e.level.0 p.level.0) [
      | inl h ↦ rw (with_part-at e p ps h) (rw h (omega arith))
      | inr q ↦ elim q [
        | inl h ↦ rw (with_part-before e p ps h)
        | inr h ↦ rw (with_part-after e p ps h) (omega (arith, value_of-with_part v e ps))
      ]
    ]

pub value_of-with_parts : (v : ℕ → ℕ) (ps es : List LevelExpr) → value_of v (with_parts ps es) ≡ max (value_of v ps) (value_of v es)
value_of-with_parts v ps [] = omega arith
value_of-with_parts v ps (e ∷ es) = omega (arith, value_of-with_parts v (with_part e ps) es, value_of-with_part v e ps)

-- rising lists by recursion
pub rising-nil : IsRising []
rising-nil = λ i j d h k. absurd (omega arith)

pub rising-cons : (p : LevelExpr) (ps : List LevelExpr) → All (λ q. p.level.0 < q.level.0) ps → IsRising ps → IsRising (p ∷ ps)
rising-cons p ps above rising zero zero d h k = absurd (omega arith)
rising-cons p ps above rising zero (suc j) d h k = above j d (omega arith)
rising-cons p ps above rising (suc i) zero d h k = absurd (omega arith)
rising-cons p ps above rising (suc i) (suc j) d h k = rising i j d (omega arith) (omega arith)

pub rising-tail : (p : LevelExpr) (ps : List LevelExpr) → IsRising (p ∷ ps) → IsRising ps
rising-tail p ps rising = λ i j d h k. rising (suc i) (suc j) d (omega arith) (omega arith)

pub rising-head : (p : LevelExpr) (ps : List LevelExpr) → IsRising (p ∷ ps) → All (λ q. p.level.0 < q.level.0) ps
rising-head p ps rising = λ k d h. rising zero (suc k) d (omega arith) (omega arith)

pub above-with_part : (m : ℕ) (e : LevelExpr) (ps : List LevelExpr) → m < e.level.0 → All (λ q. m < q.level.0) ps → All (λ q. m < q.level.0) (with_part e ps)
above-with_part m e [] h above = All-cons (λ q. m < q.level.0) e [] h above
above-with_part m e (p ∷ ps) h above =
    let P : LevelExpr → Type 0 = λ q. m < q.level.0 in
    let first : m < p.level.0 = All-head P p ps above in
    let rest : All P ps = All-tail P p ps above in
    elim (cases_order e.level.0 p.level.0) [
      | inl l ↦ subst (All P) (sym (with_part-at e p ps l)) (All-cons P _ ps first rest)
      | inr q ↦ elim q [
        | inl l ↦ subst (All P) (sym (with_part-before e p ps l)) (All-cons P e (p ∷ ps) h above)
        | inr l ↦ subst (All P) (sym (with_part-after e p ps l)) (All-cons P p (with_part e ps) first (above-with_part m e ps h rest))
      ]
    ]

pub rising-with_part : (e : LevelExpr) (ps : List LevelExpr) → IsRising ps → IsRising (with_part e ps)
rising-with_part e [] rising = rising-cons e [] (All-nil _) rising
rising-with_part e (p ∷ ps) rising =
    let first : All (λ q. p.level.0 < q.level.0) ps = rising-head p ps rising in
    let rest : IsRising ps = rising-tail p ps rising in
    elim (cases_order e.level.0 p.level.0) [
      | inl l ↦ subst IsRising (sym (with_part-at e p ps l)) (rising-cons _ ps first rest)
      | inr q ↦ elim q [
        | inl l ↦ subst IsRising (sym (with_part-before e p ps l))
            (rising-cons e (p ∷ ps) (All-cons (λ q. e.level.0 < q.level.0) p ps l (λ k d h. let above : p.level.0 < (get_or ps k d).level.0 = first k d h in omega arith)) rising)
        | inr l ↦ subst IsRising (sym (with_part-after e p ps l))
            (rising-cons p (with_part e ps) (above-with_part p.level.0 e ps l first) (rising-with_part e ps rest))
      ]
    ]

pub rising-with_parts : (ps es : List LevelExpr) → IsRising ps → IsRising (with_parts ps es)
rising-with_parts ps [] rising = rising
rising-with_parts ps (e ∷ es) rising = rising-with_parts (with_part e ps) es (rising-with_part e ps rising)

-- no part is lost
pub with_part-some : (e : LevelExpr) (ps : List LevelExpr) → with_part e ps ≢ []
with_part-some e [] = λ h. cc
with_part-some e (p ∷ ps) =
    elim (cases_order e.level.0 p.level.0) [
      | inl l ↦ λ h. let e = with_part-at e p ps l in cc
      | inr q ↦ elim q [
        | inl l ↦ λ h. let e = with_part-before e p ps l in cc
        | inr l ↦ λ h. let e = with_part-after e p ps l in cc
      ]
    ]

pub with_parts-some : (ps es : List LevelExpr) → ps ≢ [] → with_parts ps es ≢ []
with_parts-some ps [] some = some
with_parts-some ps (e ∷ es) some = with_parts-some (with_part e ps) es (with_part-some e ps)

pub maximum_of-normal : (es : List LevelExpr) → es ≢ [] → IsNormal (maximum_of es)
maximum_of-normal [] some = absurd (some refl)
maximum_of-normal (e ∷ es) some = (with_parts-some (with_part e []) es (with_part-some e []), rising-with_parts [] (e ∷ es) rising-nil)

-- the maximum of what is in normal form
pub with_parts-append : (ps xs ys : List LevelExpr) → with_parts ps (xs ++ ys) ≡ with_parts (with_parts ps xs) ys
with_parts-append ps [] ys = refl
with_parts-append ps (x ∷ xs) ys = with_parts-append (with_part x ps) xs ys

pub with_part-last : (e : LevelExpr) (ps : List LevelExpr) → All (λ q. q.level.0 < e.level.0) ps → with_part e ps ≡ ps ++ e ∷ []
with_part-last e [] below = refl
with_part-last e (p ∷ ps) below =
    with_part-after e p ps (All-head (λ q. q.level.0 < e.level.0) p ps below) ∙ ap (λ qs. p ∷ qs) (with_part-last e ps (All-tail (λ q. q.level.0 < e.level.0) p ps below))

pub with_parts-take : (ps : List LevelExpr) → IsRising ps → (d : LevelExpr) (k : ℕ) → k ≤ length ps → with_parts [] (take k ps) ≡ take k ps
with_parts-take ps rising d zero h = refl
with_parts-take ps rising d (suc k) h =
    let within : k < length ps = omega arith in
    let more : take (suc k) ps ≡ take k ps ++ get_or ps k d ∷ [] = grind (arith, take_more) in
    let before : with_parts [] (take k ps) ≡ take k ps = with_parts-take ps rising d k (omega arith) in
    let below : All (λ q. q.level.0 < (get_or ps k d).level.0) (take k ps) =
    λ i d' l. let inside : i < k = grind (arith, elements) in let pair = rising i k d' inside within in grind (arith, elements, pair) in
    ap (with_parts []) more ∙ with_parts-append [] (take k ps) (get_or ps k d ∷ []) ∙ ap (with_part (get_or ps k d)) before
    ∙ with_part-last (get_or ps k d) (take k ps) below ∙ sym more

pub with_parts-normal : (ps : List LevelExpr) → IsRising ps → with_parts [] ps ≡ ps
with_parts-normal ps rising =
    let all : take (length ps) ps ≡ ps = grind (arith, common_steps) in
    ap (with_parts []) (sym all) ∙ with_parts-take ps rising (record { level = record { 0 = 0 }; add = 0 }) (length ps) (omega arith) ∙ all

-- the maximum of two universes
pub maximum_of-append : (ps es : List LevelExpr) → IsRising ps → with_parts ps es ≡ maximum_of (ps ++ es)
maximum_of-append ps es rising = ap (λ qs. with_parts qs es) (sym (with_parts-normal ps rising)) ∙ sym (with_parts-append [] ps es)
