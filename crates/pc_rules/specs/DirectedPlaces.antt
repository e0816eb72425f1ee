-- Directed rules that are followed at places of an environment, one after the other: how they end, and where a refusal stands.
use Rattle.std.specs.Prelude.{Bool, false, ◌||◌}
use Rattle.pc_rules.specs.declared.broken.Broken.{Broken}
use Rattle.pc_rules.specs.declared.broken.Place.{Place}
use Rattle.pc_rules.specs.declared.meter.Account.{Account}
use Rattle.pc_rules.specs.DirectedRun.{Run, End, Done, Refused, NoUnit, Nested}

-- a result, or what is refused at a place, each with the units and uses that are left; or there is no unit left, or no more rules may stand
-- in one another
pub data Outcome (A : Type 0) : Type 0 where
  Gives : A → Account → Outcome A
  Breaks : Place → Broken → Account → Outcome A
  Spends Nests : Outcome A

-- `deep`: on the way a term was made that passes a limit
pub record Placed (A : Type 0) : Type 0 where
  pub outcome : Outcome A
  pub deep : Bool

abbrev pub gives : {A : Type 0} → A → Account → Placed A
gives a u = record { outcome = Gives a u; deep = false }

abbrev pub breaks : {A : Type 0} → Place → Broken → Account → Placed A
breaks p b u = record { outcome = Breaks p b u; deep = false }

abbrev pub outcome_at : {A : Type 0} → Place → End A → Outcome A
outcome_at p (Done a u) = Gives a u
outcome_at p (Refused b u) = Breaks p b u
outcome_at p NoUnit = Spends
outcome_at p Nested = Nests

-- what is done at a place
abbrev pub at_place : {A : Type 0} → Place → Run A → Placed A
at_place p r = record { outcome = outcome_at p r.end; deep = r.deep }

abbrev pub outcome_then : {A B : Type 0} → Outcome A → (A → Account → Outcome B) → Outcome B
outcome_then (Gives a u) k = k a u
outcome_then (Breaks p b u) k = Breaks p b u
outcome_then Spends k = Spends
outcome_then Nests k = Nests

abbrev pub outcome_deep : {A : Type 0} → Outcome A → (A → Account → Bool) → Bool
outcome_deep (Gives a u) k = k a u
outcome_deep (Breaks p b u) k = false
outcome_deep Spends k = false
outcome_deep Nests k = false

-- one after the other
unfoldable pub and_then : {A B : Type 0} → Placed A → (A → Account → Placed B) → Placed B
and_then r k = record {
  outcome = outcome_then r.outcome (λ a u. (k a u).outcome);
  deep = r.deep || outcome_deep r.outcome (λ a u. (k a u).deep);
}

-- what is done at a place, and then the rest
abbrev pub placed_end : {A B : Type 0} → Place → End A → (A → Account → Outcome B) → Outcome B
placed_end p e k = outcome_then (outcome_at p e) k

abbrev pub placed : {A B : Type 0} → Place → Run A → (A → Account → Placed B) → Placed B
placed p r k = and_then (at_place p r) k
