-- The laws of bare types in accepted environments, as statements: each type has a sort, reduction keeps types, two types of a term have one below both, closed values of a family are
-- constructors, and each evaluation of a typed closed term is lawful.
use Rattle.std.specs.Prelude.{ℕ, List, [], ◌≢◌}
use Rattle.universe_levels.specs.declared.sort.Sort.TheVariants.{Prop}
use Rattle.pc_terms.specs.declared.leaf.FamilyId.{FamilyId}
use Rattle.pc_terms.specs.Syntax.{Term, Ind, apply}
use Rattle.calculus_rules.specs.Environment.{Env, FamilyDecl, KeepsFamily}
use Rattle.calculus_rules.specs.Context.{Context, values}
use Rattle.calculus_rules.specs.Conversion.{Below}
use Rattle.calculus_rules.specs.Step.{Step, IsConstructor}
use Rattle.calculus_rules.specs.Typing.{bare, Types}
use Rattle.calculus_rules.specs.Accepted.{IsAccepted}
use Rattle.calculus_rules.specs.Erasable.{Erasable}
use Rattle.calculus_rules.specs.Evaluation.{Evaluates}
use Rattle.calculus_rules.specs.FirstOrder.{Shape, IsFirstOrder}
use Rattle.calculus_rules.specs.Lawful.{IsLawful, IsLawfulEvaluation}
use Rattle.type_laws.specs.Contexts.{HasSort, IsContext}

-- validity
abbrev pub TypesHaveSorts : Type 0
TypesHaveSorts = (E : Env) → IsAccepted E → (c : Context) (t T : Term) → IsContext E c → Types bare E c t T → HasSort E c T

-- subject reduction
abbrev pub ReductionKeepsTypes : Type 0
ReductionKeepsTypes = (E : Env) → IsAccepted E → (c : Context) (t u T : Term) → IsContext E c → Step E (values c) t u → Types bare E c t T → Types bare E c u T

-- principality, for two types
abbrev pub TypesHaveACommonOne : Type 0
TypesHaveACommonOne = (E : Env) → IsAccepted E → (c : Context) (t T U : Term) → IsContext E c → Types bare E c t T → Types bare E c t U →
    (P : Term) × Types bare E c t P × Below E (values c) P T × Below E (values c) P U

-- canonicity: what evaluation leaves of a family is a constructor with all its parameters and arguments
abbrev pub ValuesAreConstructors : Type 0
ValuesAreConstructors = (E : Env) → IsAccepted E → (f : FamilyId) (is : List Term) (t v : Term) (n : ℕ) → Evaluates E t v n → Types bare E [] v (apply (Ind f) is) →
    (c : ℕ) × (qs : List Term) × (xs : List Term) × IsConstructor E f c v qs xs

-- a constructor of a family that isn't in Prop, with all its parameters and arguments, isn't erasable where it has a type
abbrev pub FamiliesStay : Type 0
FamiliesStay = (E : Env) → IsAccepted E → (f : FamilyId) (F : FamilyDecl) (c : ℕ) (v : Term) (qs xs : List Term) (T : Term) → KeepsFamily E f F → F.sort ≢ Prop →
    IsConstructor E f c v qs xs → Types bare E [] v T → Erasable E [] v → ⊥

-- each evaluation of a typed term is lawful
abbrev pub EvaluationsAreLawful : Type 0
EvaluationsAreLawful = (E : Env) → IsAccepted E → (t v T : Term) (n : ℕ) (e : Evaluates E t v n) → Types bare E [] t T → IsLawful e

-- and of a first-order type, so is the whole
abbrev pub WholeEvaluationsAreLawful : Type 0
WholeEvaluationsAreLawful = (E : Env) → IsAccepted E → (main v T : Term) (n : ℕ) (e : Evaluates E main v n) (S : List Shape) → Types bare E [] main T → IsFirstOrder E T S →
    IsLawfulEvaluation E T e
