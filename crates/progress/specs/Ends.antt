-- How the directed evaluation of a closed term ends where it makes progress: with a value, without units, or at a constant without a body.
use Rattle.std.specs.Prelude.{ℕ, List, [], None}
use Rattle.pc_terms.specs.declared.leaf.Name.{Name}
use Rattle.pc_terms.specs.declared.leaf.FamilyId.{FamilyId}
use Rattle.pc_terms.specs.Syntax.{Term, Const}
use Rattle.pc_rules.specs.declared.meter.Account.{Account}
use Rattle.calculus_rules.specs.Environment.{Env, KeepsConstant}
use Rattle.calculus_rules.specs.Step.{IsConstructor}
use Rattle.calculus_rules.specs.Typing.{bare, Types}
use Rattle.calculus_rules.specs.Evaluation.{Evaluates}
use Rattle.pc_rules.specs.DirectedRun.{End, Done, NoUnit}
use Rattle.pc_rules.specs.DirectedEvaluation.{Evaluated, Value, Stuck}

-- a constant is kept without a body
abbrev pub IsAxiom : Env → Name → Type 0
IsAxiom E k = (T : Term) × KeepsConstant E k T None

abbrev pub HasNoAxioms : Env → Type 0
HasNoAxioms E = (k : Name) → IsAxiom E k → ⊥

-- the ends of t, which has type T: no rule is broken, no nesting is met, and what is stuck is an axiom
pub data Progresses (E : Env) (t T : Term) : End Evaluated → Type 0 where
  gives : {v : Term} {n : ℕ} {u : Account} → Evaluates E t v n → Types bare E [] v T → Progresses E t T (Done (Value v) u)
  spends : Progresses E t T NoUnit
  meets : {k : Name} {u : Account} → IsAxiom E k → Progresses E t T (Done (Stuck (Const k)) u)

-- the ends of a term of a family, where there are no axioms
pub data Builds (E : Env) (f : FamilyId) : End Evaluated → Type 0 where
  builds : {c : ℕ} {v : Term} {qs xs : List Term} {u : Account} → IsConstructor E f c v qs xs → Builds E f (Done (Value v) u)
  spends_all : Builds E f NoUnit
