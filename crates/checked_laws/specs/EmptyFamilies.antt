-- The evaluation of a closed term of a family without constructors, as False is: it ends at no other place than a constant without a body, and where there is none it takes all units, however many.
use Rattle.std.specs.Prelude.{◌≡◌, ◌⊎◌}
use Rattle.pc_terms.specs.declared.leaf.Name.{Name}
use Rattle.pc_terms.specs.declared.leaf.FamilyId.{FamilyId}
use Rattle.pc_terms.specs.Syntax.{Term, Const}
use Rattle.pc_rules.specs.declared.meter.Account.{Account}
use Rattle.calculus_rules.specs.Environment.{Env}
use Rattle.calculus_rules.specs.Accepted.{IsAccepted}
use Rattle.pc_rules.specs.DirectedRun.{Done, NoUnit}
use Rattle.pc_rules.specs.DirectedEvaluation.{Stuck, evaluation}
use Rattle.progress.specs.Ends.{IsAxiom, HasNoAxioms}
use Rattle.metatheory.specs.EmptyFamilies.{IsEmptyFamily, IsOfFamily}

-- the evaluation of the term with so many units takes them all, or it meets a constant without a body
abbrev pub SpendsOrMeets : Env → Term → Account → Type 0
SpendsOrMeets E t u =
    ((evaluation E t u).end ≡ NoUnit) ⊎ ((k : Name) × (w : Account) × ((evaluation E t u).end ≡ Done (Stuck (Const k)) w) × IsAxiom E k)

-- so it does whatever the units
abbrev pub EmptyFamiliesEndAtAxioms : Type 0
EmptyFamiliesEndAtAxioms =
    (E : Env) → IsAccepted E → (f : FamilyId) → IsEmptyFamily E f → (t : Term) → IsOfFamily E t f → (u : Account) → SpendsOrMeets E t u

-- and where each constant has a body it takes them all: the evaluation never ends
abbrev pub EmptyFamiliesNeverEnd : Type 0
EmptyFamiliesNeverEnd =
    (E : Env) → IsAccepted E → HasNoAxioms E → (f : FamilyId) → IsEmptyFamily E f → (t : Term) → IsOfFamily E t f → (u : Account) →
    (evaluation E t u).end ≡ NoUnit
