-- The laws of sparing evaluation, as statements: each evaluation is a sparing one; it keeps types and lies in equality; a value of a first-order type is data; and whatever was left alone, the data is one.
use Rattle.std.specs.Prelude.{ℕ, ◌≡◌, ◌≢◌, List, []}
use Rattle.universe_levels.specs.declared.sort.Sort.TheVariants.{Prop}
use Rattle.pc_terms.specs.declared.leaf.FamilyId.{FamilyId}
use Rattle.pc_terms.specs.Syntax.{Term, Ind, apply}
use Rattle.calculus_rules.specs.Environment.{Env, FamilyDecl, KeepsFamily}
use Rattle.calculus_rules.specs.Conversion.{Equal}
use Rattle.calculus_rules.specs.Typing.{bare, Types}
use Rattle.calculus_rules.specs.Accepted.{IsAccepted}
use Rattle.calculus_rules.specs.Erasable.{Erasable}
use Rattle.calculus_rules.specs.Evaluation.{Evaluates}
use Rattle.calculus_rules.specs.FirstOrder.{Shape, IsFirstOrder, Data, Reads, NothingErasable}
use Rattle.sparing_laws.specs.SparingEvaluation.{EvaluatesSparingly}

-- each evaluation is a sparing one, with the same value and as many nodes
abbrev pub EvaluationsAreSparing : Type 0
EvaluationsAreSparing = (E : Env) (t v : Term) (n : ℕ) → Evaluates E t v n → EvaluatesSparingly E t v n

-- a sparing evaluation of a typed closed term keeps its types, and its value is equal to the term
abbrev pub SparingKeepsTypes : Type 0
SparingKeepsTypes = (E : Env) → IsAccepted E → (t v T : Term) (n : ℕ) → EvaluatesSparingly E t v n → Types bare E [] t T → Types bare E [] v T

abbrev pub SparingIsEquality : Type 0
SparingIsEquality = (E : Env) → IsAccepted E → (t v T : Term) (n : ℕ) → EvaluatesSparingly E t v n → Types bare E [] t T → Equal E [] t v

-- a closed term of a family that isn't in Prop isn't erasable, so it is never left alone
abbrev pub DataIsNeverLeft : Type 0
DataIsNeverLeft = (E : Env) → IsAccepted E → (f : FamilyId) (F : FamilyDecl) (xs : List Term) (t : Term) → KeepsFamily E f F → F.sort ≢ Prop → Types bare E [] t (apply (Ind f) xs) →
    Erasable E [] t → ⊥

-- the value of a term of first-order type is data, no constructor of which is erasable
abbrev pub SparingValuesAreData : Type 0
SparingValuesAreData = (E : Env) → IsAccepted E → (t v T : Term) (n : ℕ) (S : List Shape) → EvaluatesSparingly E t v n → Types bare E [] t T → IsFirstOrder E T S →
    (d : Data) × (r : Reads E S 0 v d) × NothingErasable r

-- and it is the same data whatever was left alone
abbrev pub SparingDataIsOne : Type 0
SparingDataIsOne = (E : Env) → IsAccepted E → (t v w T : Term) (n m : ℕ) (S : List Shape) (d e : Data) → Types bare E [] t T → EvaluatesSparingly E t v n → EvaluatesSparingly E t w m →
    Reads E S 0 v d → Reads E S 0 w e → d ≡ e

-- so where main evaluates to data, each sparing evaluation of it gives that data
abbrev pub SparingGivesTheSameData : Type 0
SparingGivesTheSameData = (E : Env) → IsAccepted E → (t v w T : Term) (n m : ℕ) (S : List Shape) (d e : Data) → Types bare E [] t T → Evaluates E t v n → EvaluatesSparingly E t w m →
    Reads E S 0 v d → Reads E S 0 w e → d ≡ e
