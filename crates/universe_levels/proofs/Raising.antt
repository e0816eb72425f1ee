-- A universe plus one.
use Rattle.std.proofs.Common.{◌≡◌, ◌≢◌, ℕ, ◌+◌, ◌<◌, List, [], ◌∷◌, map, refl, arith}
use Rattle.universe_levels.specs.declared.level.LevelExpr.{LevelExpr}
use Rattle.universe_levels.specs.Maximum.{IsRising, IsNormal}
use Rattle.universe_levels.specs.Parts.{raised}
use Rattle.universe_levels.specs.Valuation.{value_of}
use Rattle.universe_levels.proofs.MaximumLemmas.{rising-cons, rising-tail, rising-head}
use Rattle.std.proofs.lemmas.List.Elements.{All-map}

pub value_of-raised : (v : ℕ → ℕ) (ps : List LevelExpr) → ps ≢ [] → value_of v (map raised ps) ≡ value_of v ps + 1
value_of-raised v [] some = absurd (some refl)
value_of-raised v (p ∷ []) some = omega arith
value_of-raised v (p ∷ (q ∷ ps)) some = omega (arith, value_of-raised v (q ∷ ps) (λ h. cc))

pub rising-raised : (ps : List LevelExpr) → IsRising ps → IsRising (map raised ps)
rising-raised [] rising = rising
rising-raised (p ∷ ps) rising =
    rising-cons (raised p) (map raised ps) (All-map (λ q. p.level.0 < q.level.0) raised ps (rising-head p ps rising))
    (rising-raised ps (rising-tail p ps rising))

pub normal-raised : (ps : List LevelExpr) → IsNormal ps → IsNormal (map raised ps)
normal-raised [] n = absurd (n.0 refl)
normal-raised (p ∷ ps) n = (λ h. cc, rising-raised (p ∷ ps) n.1)
