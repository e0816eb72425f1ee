-- The laws of progress in accepted environments, as statements: the directed evaluation of a closed term with a bare type gets stuck at nothing but axioms.
use Rattle.std.specs.Prelude.{◌≡◌, List, []}
use Rattle.universe_levels.specs.declared.level.Level.{Level}
use Rattle.pc_terms.specs.declared.leaf.Name.{Name}
use Rattle.pc_terms.specs.declared.leaf.FamilyId.{FamilyId}
use Rattle.pc_terms.specs.Syntax.{Term, Const, Ind, apply}
use Rattle.pc_rules.specs.declared.meter.Account.{Account}
use Rattle.calculus_rules.specs.Environment.{Env}
use Rattle.calculus_rules.specs.Typing.{bare, Types}
use Rattle.calculus_rules.specs.Accepted.{IsAccepted, IsWellFormed}
use Rattle.calculus_rules.specs.FirstOrder.{Shape, Data, IsFirstOrder, Reads}
use Rattle.pc_rules.specs.DirectedRun.{Done}
use Rattle.pc_rules.specs.DirectedEvaluation.{Value, Stuck, evaluation}
use Rattle.progress.specs.Ends.{IsAxiom, HasNoAxioms, Progresses, Builds}

-- whatever the units: a value of the type, no unit left, or an axiom
abbrev pub EvaluationProgresses : Type 0
EvaluationProgresses = (E : Env) → IsAccepted E → (t T : Term) → Types bare E [] t T → (u : Account) → Progresses E t T (evaluation E t u).end

-- so does main's, where the environment is well formed with main
abbrev pub MainProgresses : Type 0
MainProgresses = (listed : List Level) (E : Env) (main T : Term) → IsWellFormed listed E main T → (u : Account) → Progresses E main T (evaluation E main u).end

-- what is stuck is an axiom
abbrev pub StuckAtAxioms : Type 0
StuckAtAxioms =
    (E : Env) → IsAccepted E → (t T w : Term) (u x : Account) → Types bare E [] t T → (evaluation E t u).end ≡ Done (Stuck w) x → (k : Name) × (w ≡ Const k) × IsAxiom E k

-- without axioms nothing is stuck
abbrev pub NothingIsStuck : Type 0
NothingIsStuck =
    (E : Env) → IsAccepted E → HasNoAxioms E → (t T w : Term) (u x : Account) → Types bare E [] t T → (evaluation E t u).end ≡ Done (Stuck w) x → ⊥

-- and a term of a family gives one of its constructors with all parameters and arguments, where the units suffice
abbrev pub FamiliesAreBuilt : Type 0
FamiliesAreBuilt =
    (E : Env) → IsAccepted E → HasNoAxioms E → (f : FamilyId) (is : List Term) (t : Term) → Types bare E [] t (apply (Ind f) is) → (u : Account) →
    Builds E f (evaluation E t u).end

-- a value of a first-order type is data along its first-order set
abbrev pub FirstOrderValuesAreData : Type 0
FirstOrderValuesAreData =
    (E : Env) → IsAccepted E → (t v T : Term) (S : List Shape) (u x : Account) → Types bare E [] t T → IsFirstOrder E T S → (evaluation E t u).end ≡ Done (Value v) x →
    (d : Data) × Reads E S 0 v d
