-- The laws of evaluation over lemmas, as statements: each evaluation is one over lemmas; it keeps types and lies in equality; a value of a first-order type is data, the same as that of each sparing evaluation.
use Rattle.std.specs.Prelude.{ℕ, ◌≡◌, List, []}
use Rattle.pc_terms.specs.Syntax.{Term}
use Rattle.calculus_rules.specs.Environment.{Env}
use Rattle.calculus_rules.specs.Conversion.{Equal}
use Rattle.calculus_rules.specs.Typing.{bare, Types}
use Rattle.calculus_rules.specs.Accepted.{IsAccepted}
use Rattle.calculus_rules.specs.Evaluation.{Evaluates}
use Rattle.calculus_rules.specs.FirstOrder.{Shape, IsFirstOrder, Data, Reads, NothingErasable}
use Rattle.sparing_laws.specs.SparingEvaluation.{EvaluatesSparingly}
use Rattle.sparing_laws.specs.LemmaEvaluation.{EvaluatesOverLemmas}

-- each evaluation of a typed closed term is one over lemmas, with the same value and as many nodes
abbrev pub EvaluationsAreOverLemmas : Type 0
EvaluationsAreOverLemmas = (E : Env) → IsAccepted E → (t v T : Term) (n : ℕ) → Types bare E [] t T → Evaluates E t v n → EvaluatesOverLemmas E t v n

-- an evaluation over lemmas of a typed closed term keeps its types, and its value is equal to the term
abbrev pub OverLemmasKeepsTypes : Type 0
OverLemmasKeepsTypes = (E : Env) → IsAccepted E → (t v T : Term) (n : ℕ) → EvaluatesOverLemmas E t v n → Types bare E [] t T → Types bare E [] v T

abbrev pub OverLemmasIsEquality : Type 0
OverLemmasIsEquality = (E : Env) → IsAccepted E → (t v T : Term) (n : ℕ) → EvaluatesOverLemmas E t v n → Types bare E [] t T → Equal E [] t v

-- the value of a term of first-order type is data, no constructor of which is erasable: no lemma stands in it
abbrev pub ValuesOverLemmasAreData : Type 0
ValuesOverLemmasAreData = (E : Env) → IsAccepted E → (t v T : Term) (n : ℕ) (S : List Shape) → EvaluatesOverLemmas E t v n → Types bare E [] t T → IsFirstOrder E T S →
    (d : Data) × (r : Reads E S 0 v d) × NothingErasable r

-- and it is one
abbrev pub DataOverLemmasIsOne : Type 0
DataOverLemmasIsOne = (E : Env) → IsAccepted E → (t v w T : Term) (n m : ℕ) (S : List Shape) (d e : Data) → Types bare E [] t T → EvaluatesOverLemmas E t v n → EvaluatesOverLemmas E t w m →
    Reads E S 0 v d → Reads E S 0 w e → d ≡ e

-- the same as that of each sparing evaluation
abbrev pub SparingGivesTheSameAsOverLemmas : Type 0
SparingGivesTheSameAsOverLemmas = (E : Env) → IsAccepted E → (t v w T : Term) (n m : ℕ) (S : List Shape) (d e : Data) → Types bare E [] t T → EvaluatesOverLemmas E t v n →
    EvaluatesSparingly E t w m → Reads E S 0 v d → Reads E S 0 w e → d ≡ e
