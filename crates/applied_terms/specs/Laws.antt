-- The laws of main applied to the source terms of data, as statements: such a term exists, is read as the data, has a type; and where it evaluates, so does the erased
-- main, applied to terms that are the same data.
use Rattle.std.specs.Prelude.{ℕ, List, []}
use Rattle.pc_terms.specs.Syntax.{Term}
use Rattle.calculus_rules.specs.Environment.{Env}
use Rattle.calculus_rules.specs.Typing.{bare, Types}
use Rattle.calculus_rules.specs.Accepted.{IsAccepted}
use Rattle.calculus_rules.specs.Evaluation.{Evaluates}
use Rattle.calculus_rules.specs.FirstOrder.{Shape as Member, IsFirstOrder, Data, Reads, FitsShapes}
use Rattle.lambda_box.specs.BoxProgram.{BoxProgram}
use Rattle.erase_laws.specs.ErasedProgram.{IsErased}
use Rattle.first_order.specs.Signature.{IsSignature}
use Rattle.first_order.specs.Applied.{IsSourceOf, IsApplied}
use Rattle.applied_terms.specs.CallEvaluation.{CallEvaluatesTo, ArgumentsFitSets}

-- data that fits has a source term, and main has one that is applied to those of data that fits the sets
abbrev pub FittingDataHasATerm : Type 0
FittingDataHasATerm = (S : List Member) (i : ℕ) (d : Data) → FitsShapes S i d → (t : Term) × IsSourceOf S i d t

abbrev pub AppliedTermsAreThere : Type 0
AppliedTermsAreThere = (Ss : List (List Member)) (main : Term) (ds : List Data) → ArgumentsFitSets Ss ds → (t : Term) × IsApplied Ss main ds t

-- and what has a source term fits, which is read back as the data
abbrev pub SourceTermsAreRead : Type 0
SourceTermsAreRead =
    (E : Env) (T : Term) (S : List Member) → IsFirstOrder E T S → (i : ℕ) (d : Data) (t : Term) → IsSourceOf S i d t → FitsShapes S i d × Reads E S i t d

-- main of this signature, applied, has a type, of the answer's first-order set
abbrev pub AppliedTermsAreTyped : Type 0
AppliedTermsAreTyped =
    (E : Env) → IsAccepted E → (main T : Term) → Types bare E [] main T → (Ss : List (List Member)) (R : List Member) → IsSignature E T Ss R → (ds : List Data) (t : Term) → IsApplied Ss main ds t →
    (U : Term) × Types bare E [] t U × IsFirstOrder E U R

-- where it evaluates, the value is data along that set, to which the erased main evaluates, applied to terms that are the arguments' data, in no more nodes
abbrev pub AppliedValuesAreKept : Type 0
AppliedValuesAreKept =
    (E : Env) → IsAccepted E → (main T : Term) → Types bare E [] main T → (P : BoxProgram) → IsErased E main P → (Ss : List (List Member)) (R : List Member) → IsSignature E T Ss R →
    (ds : List Data) (t : Term) → IsApplied Ss main ds t → (v : Term) (n : ℕ) → Evaluates E t v n → (tree : Data) × Reads E R 0 v tree × CallEvaluatesTo P ds tree n × FitsShapes R 0 tree
