-- Families without constructors, as False is: no closed term of one has a value in an accepted environment.
use Rattle.std.specs.Prelude.{ℕ, ◌≡◌, List, []}
use Rattle.pc_terms.specs.declared.leaf.FamilyId.{FamilyId}
use Rattle.pc_terms.specs.Syntax.{Term, Ind, apply}
use Rattle.calculus_rules.specs.Environment.{Env, FamilyDecl, KeepsFamily}
use Rattle.calculus_rules.specs.Typing.{bare, Types}
use Rattle.calculus_rules.specs.Accepted.{IsAccepted}
use Rattle.calculus_rules.specs.Evaluation.{Evaluates}

-- a family without constructors is kept
abbrev pub IsEmptyFamily : Env → FamilyId → Type 0
IsEmptyFamily E f = (F : FamilyDecl) × KeepsFamily E f F × (F.constructors ≡ [])

-- the closed term has a type of the family, at some parameters and indices
abbrev pub IsOfFamily : Env → Term → FamilyId → Type 0
IsOfFamily E t f = (xs : List Term) × Types bare E [] t (apply (Ind f) xs)

-- a closed term of a family without constructors has no value by the evaluation relation
abbrev pub EmptyFamiliesHaveNoValues : Type 0
EmptyFamiliesHaveNoValues =
    (E : Env) → IsAccepted E → (f : FamilyId) → IsEmptyFamily E f → (t : Term) → IsOfFamily E t f → (v : Term) (n : ℕ) → Evaluates E t v n → ⊥
