-- When two ends of directed rules agree.
use Rattle.std.specs.Prelude.{◌≡◌}
use Rattle.pc_rules.specs.DirectedRun.{End, Done, Refused}
use Rattle.pc_rules.specs.DirectedPlaces.{Outcome, Gives, Breaks}

-- where both have a result it is the same, where both are refused it is by the same refusal, and never has one a result where the other is
-- refused; an end for want of units or of room says nothing
abbrev pub Agree : {A : Type 0} → End A → End A → Type 0
Agree (Done a u) (Done b v) = a ≡ b
Agree (Done a u) (Refused b v) = ⊥
Agree (Refused a u) (Done b v) = ⊥
Agree (Refused a u) (Refused b v) = a ≡ b
Agree _ _ = Unit {0}

-- the same of what is done at places of an environment, with the place of a refusal
abbrev pub AgreeAtPlaces : {A : Type 0} → Outcome A → Outcome A → Type 0
AgreeAtPlaces (Gives a u) (Gives b v) = a ≡ b
AgreeAtPlaces (Gives a u) (Breaks p b v) = ⊥
AgreeAtPlaces (Breaks p b u) (Gives a v) = ⊥
AgreeAtPlaces (Breaks p a u) (Breaks r b v) = (p ≡ r) × (a ≡ b)
AgreeAtPlaces _ _ = Unit {0}
