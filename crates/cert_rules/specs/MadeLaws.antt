-- Laws of the directed rules that write certificates, as statements: what is forgotten, and that the certified walk accepts what is made.
use Rattle.std.specs.Prelude.{◌≡◌, ℕ, ◌+◌, ◌≤◌, List, ◌⊎◌, Option, length}
use Rattle.universe_levels.specs.declared.level.Level.{Level}
use Rattle.universe_levels.specs.declared.constraint.Constraint.{Constraint}
use Rattle.pc_terms.specs.Syntax.{Term}
use Rattle.pc_terms.specs.Formed.{IsFormed}
use Rattle.pc_rules.specs.declared.meter.Account.{Account}
use Rattle.calculus_rules.specs.Environment.{Env}
use Rattle.pc_rules.specs.DirectedPlaces.{Gives}
use Rattle.pc_rules.specs.DirectedComparison.{Test, IsTest}
use Rattle.pc_rules.specs.DirectedDeclarations.{Given, environment_rule}
use Rattle.rule_laws.specs.Declarations.{AllGivenFormed}
use Rattle.cert_rules.specs.Walk.{WalkState, Walk, Passed, Crowded}
use Rattle.cert_rules.specs.Writing.{Wrote}
use Rattle.cert_rules.specs.WalkDeclarations.{walk_environment, start}
use Rattle.cert_rules.specs.MakingDeclarations.{make_environment, placed_forgotten}

-- but for the items, what is made is what the directed rules give: results, refusals with their places, units, uses, and limits that are passed
abbrev pub MakingIsDirected : Type 0
MakingIsDirected = (levels : List Level) (cs : List Constraint) (cycle : Option (List ℕ)) (q : Test) → IsTest (length levels) cs q →
    (n : ℕ) (ds : List Given) (main : Term) (u : Account) → AllGivenFormed ds → IsFormed main →
    placed_forgotten (make_environment levels cs cycle q n ds main u) ≡ environment_rule levels cs cycle q n ds main u

-- the walk accepts with this result and takes at most t units, or too many rules stand in one another
abbrev pub Accepts : Walk (Env × Term) → Env × Term → ℕ → ℕ → Type 0
Accepts w r units t = (w.end ≡ Crowded) ⊎ ((s : WalkState) × (w.end ≡ Passed r s) × (units ≤ s.account.left + t))

-- what is made, the walk accepts with at least the units that were taken in making it, whatever uses were noted before and however many
-- rules may stand in one another, or too many do; and it takes no more units
abbrev pub MadeIsAccepted : Type 0
MadeIsAccepted = (levels : List Level) (cs : List Constraint) (cycle : Option (List ℕ)) (q : Test) → IsTest (length levels) cs q →
    (n : ℕ) (ds : List Given) (main : Term) (u v : Account) (r : Wrote (Env × Term)) → AllGivenFormed ds → IsFormed main →
    (make_environment levels cs cycle q n ds main u).outcome ≡ Gives r v → (m : ℕ) (w : Account) → u.left ≤ w.left + v.left →
    Accepts (walk_environment r.items levels cs cycle q m ds main (start w)) r.value (w.left + v.left) u.left
