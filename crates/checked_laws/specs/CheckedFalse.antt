-- False in an environment that the check accepts: where one of the blocks that were given declares a family without constructors and main has a type of it, main has no value.
use Rattle.std.specs.Prelude.{ℕ, ◌≡◌, List, [], None, Some, slice_get}
use Rattle.universe_levels.specs.declared.constraint.Constraint.{Constraint}
use Rattle.universe_levels.specs.declared.level.Level.{Level}
use Rattle.pc_terms.specs.declared.leaf.Name.{Name}
use Rattle.pc_terms.specs.declared.leaf.FamilyId.{FamilyId}
use Rattle.pc_terms.specs.Syntax.{Term}
use Rattle.pc_rules.specs.declared.meter.Account.{Account}
use Rattle.calculus_rules.specs.declared.declaration.Block.{Block}
use Rattle.calculus_rules.specs.declared.declaration.Family.{Family}
use Rattle.calculus_rules.specs.Environment.{Env, Has}
use Rattle.calculus_rules.specs.Evaluation.{Evaluates}
use Rattle.pc_rules.specs.DirectedRun.{NoUnit}
use Rattle.pc_rules.specs.DirectedDeclarations.{Given, GivenConstant, GivenBlock}
use Rattle.pc_rules.specs.DirectedEvaluation.{evaluation}
use Rattle.rule_laws.specs.Declarations.{IsCheckedEnvironment}
use Rattle.metatheory.specs.EmptyFamilies.{IsOfFamily}

-- one of the declarations is a block that has the family, without constructors
abbrev pub DeclaresEmpty : List Given → FamilyId → Type 0
DeclaresEmpty ds f = (B : Block) × Has ds (GivenBlock B) × (B.name ≡ f.block) × ((F : Family) × (slice_get B.families f.family ≡ Some F) × (F.ctors ≡ []))

-- none of them is a constant without a body
abbrev pub DeclaresNoAxiom : List Given → Type 0
DeclaresNoAxiom ds = (k : Name) (T : Term) → Has ds (GivenConstant k T None) → ⊥

-- main, which has a type of the family, has no value by the evaluation relation
abbrev pub CheckedFalseHasNoValue : Type 0
CheckedFalseHasNoValue =
    (levels : List Level) (cs : List Constraint) (ds : List Given) (main : Term) (E : Env) (T : Term) → IsCheckedEnvironment levels cs ds main E T →
    (f : FamilyId) → DeclaresEmpty ds f → IsOfFamily E main f → (v : Term) (n : ℕ) → Evaluates E main v n → ⊥

-- and where no axiom is declared its evaluation takes all units, however many
abbrev pub CheckedFalseNeverEnds : Type 0
CheckedFalseNeverEnds =
    (levels : List Level) (cs : List Constraint) (ds : List Given) (main : Term) (E : Env) (T : Term) → IsCheckedEnvironment levels cs ds main E T →
    (f : FamilyId) → DeclaresEmpty ds f → IsOfFamily E main f → DeclaresNoAxiom ds → (u : Account) → (evaluation E main u).end ≡ NoUnit
