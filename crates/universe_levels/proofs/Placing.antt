-- Putting a level expression in at its place.
use Rattle.std.proofs.Common.{◌≡◌, ℕ, zero, suc, ◌<◌, ◌≤◌, max, List, [], ◌∷◌, length, get_or, set, refl, sym, ap, ◌∙◌, arith}
use Rattle.std.specs.List.{insert}
use Rattle.universe_levels.specs.declared.level.LevelExpr.{LevelExpr}
use Rattle.universe_levels.specs.Maximum.{IsRising, with_part}
use Rattle.universe_levels.specs.Places.{level_at}
use Rattle.universe_levels.proofs.MaximumLemmas.{with_part-before, with_part-at, with_part-after}

pub with_part-insert : (e : LevelExpr) (ps : List LevelExpr) (i : ℕ) → i ≤ length ps → ((k : ℕ) → k < i → level_at ps k < e.level.0)
    → (i < length ps → e.level.0 < level_at ps i) → insert ps i e ≡ with_part e ps
with_part-insert e [] zero h below above = refl
with_part-insert e [] (suc i) h below above = absurd (omega arith)
with_part-insert e (p ∷ ps) zero h below above = sym (with_part-before e p ps (above (omega arith)))
with_part-insert e (p ∷ ps) (suc i) h below above =
    ap (λ qs. p ∷ qs) (with_part-insert e ps i (omega arith) (λ k l. below (suc k) (omega arith)) (λ l. above (omega arith)))
    ∙ sym (with_part-after e p ps (below zero (omega arith)))

pub with_part-set : (e : LevelExpr) (ps : List LevelExpr) (i : ℕ) (p : LevelExpr) (m : ℕ) → i < length ps → p ≡ get_or ps i p
    → ((k : ℕ) → k < i → level_at ps k < e.level.0) → e.level.0 ≡ p.level.0 → m ≡ max p.add e.add
    → set ps i (record { level = p.level; add = m }) ≡ with_part e ps
with_part-set e [] i p m h at below same most = absurd (omega arith)
with_part-set e (q ∷ ps) zero p m h at below same most =
    let level : e.level.0 ≡ q.level.0 = same ∙ ap (λ r. r.level.0) at in
    let add : m ≡ max q.add e.add = most ∙ ap (λ r. max r.add e.add) at in
    ap (λ r. record { level = r.level; add = m } ∷ ps) at ∙ ap (λ n. record { level = q.level; add = n } ∷ ps) add ∙ sym (with_part-at e q ps level)
with_part-set e (q ∷ ps) (suc i) p m h at below same most =
    ap (λ qs. q ∷ qs) (with_part-set e ps i p m (omega arith) at (λ k l. below (suc k) (omega arith)) same most)
    ∙ sym (with_part-after e q ps (below zero (omega arith)))

pub level_at-rises : (ps : List LevelExpr) → IsRising ps → (i j : ℕ) → i < j → j < length ps → level_at ps i < level_at ps j
level_at-rises ps rising i j h k = rising i j (record { level = record { 0 = 0 }; add = 0 }) h k
