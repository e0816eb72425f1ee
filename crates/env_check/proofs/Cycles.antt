-- Constraints that alone have no valuation are none where all have one.
use Rattle.std.proofs.Common.{ℕ, zero, suc, List, [], ◌∷◌}
use Rattle.std.specs.Prelude.{All}
use Rattle.std.proofs.lemmas.List.Elements.{All-head, All-tail, All-from_get_or}
use Rattle.universe_levels.specs.declared.constraint.Constraint.{Constraint}
use Rattle.universe_levels.specs.Valuation.{Meets}
use Rattle.universe_levels.specs.Consistency.{IsConsistent}
use Rattle.universe_graph.specs.Listed.{MeetsAt, Clashes}

meets_at : (v : ℕ → ℕ) (cs : List Constraint) → All (Meets v) cs → (i : ℕ) → MeetsAt v cs i
meets_at v [] h i = tt
meets_at v (c ∷ cs) h zero = All-head (Meets v) c cs h
meets_at v (c ∷ cs) h (suc i) = meets_at v cs (All-tail (Meets v) c cs h) i

pub no_cycle : (levels : ℕ) (cs : List Constraint) (places : List ℕ) → IsConsistent levels cs → Clashes levels cs places → ⊥
no_cycle levels cs places (v, solves) clash =
    clash.alone v solves.valuation (All-from_get_or (MeetsAt v cs) places 0 (λ i l. meets_at v cs solves.meets _))
