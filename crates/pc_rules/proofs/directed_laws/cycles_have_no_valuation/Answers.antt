use Rattle.std.proofs.Common.{ℕ, zero, suc, List, [], ◌∷◌, All, IfSome, slice_get, get_or, arith}
use Rattle.universe_levels.specs.declared.constraint.Constraint.{Constraint}
use Rattle.universe_levels.specs.Valuation.{Meets}
use Rattle.pc_rules.proofs.directed_laws.cycles_have_no_valuation.Goals as goal

-- what meets all constraints meets the one at a place
met : (v : ℕ → ℕ) (cs : List Constraint) → All (Meets v) cs → (i : ℕ) → IfSome (slice_get cs i) (Meets v)
met v [] all i = tt
met v (c ∷ cs) all zero = all 0 c (omega arith)
met v (c ∷ cs) all (suc i) = met v cs (λ k d l. all (suc k) d (omega arith)) i

pub returns : goal.returns
returns c = record { none = λ levels cs places h s. h.alone s.0 (s.1).valuation (λ k d l. met s.0 cs (s.1).meets (get_or places k d)) }
