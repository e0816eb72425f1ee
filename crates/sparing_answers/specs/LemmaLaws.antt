-- What programs after erasure, and their modules, answer of an evaluation over lemmas, as statements.
use Rattle.std.specs.Prelude.{ℕ, ◌<◌, ◌≤◌, List, []}
use Rattle.pc_terms.specs.Syntax.{Term}
use Rattle.calculus_rules.specs.Environment.{Env}
use Rattle.calculus_rules.specs.Typing.{bare, Types}
use Rattle.calculus_rules.specs.Accepted.{IsAccepted}
use Rattle.calculus_rules.specs.FirstOrder.{Shape as Member, IsFirstOrder, Data, Reads, FitsShapes}
use Rattle.lambda_box.specs.BoxProgram.{BoxProgram}
use Rattle.lambda_box.specs.BoxForm.{IsBoxProgram}
use Rattle.erase_laws.specs.Erases.{Erases}
use Rattle.erase_laws.specs.ErasedProgram.{HasErased}
use Rattle.dump_reader.specs.declared.environment.RawEnv.{RawEnv}
use Rattle.first_order.specs.declared.shapes.Shape.{Shape}
use Rattle.first_order.specs.Searching.{members}
use Rattle.headline.specs.AcceptedProgram.{IsAcceptedAs, IsErasedTo, FitsPasses}
use Rattle.headline.specs.EveryRun.{EvaluatesTo}
use Rattle.headline.specs.Headline.{AnswersValue}
use Rattle.sparing_laws.specs.LemmaEvaluation.{EvaluatesOverLemmas}

-- where main evaluates over lemmas in n nodes, its value is data along each first-order set of its type, to which the erased program evaluates in no more nodes
abbrev pub LemmasAreFollowed : Type 0
LemmasAreFollowed =
    (E : Env) → IsAccepted E → (P : BoxProgram) → IsBoxProgram P → HasErased E P → (t v T : Term) (n : ℕ) → Types bare E [] t T → EvaluatesOverLemmas E t v n → Erases E [] t P.main →
    (S : List Member) → IsFirstOrder E T S → (d : Data) × Reads E S 0 v d × FitsShapes S 0 d × EvaluatesTo P d n

-- where an environment is accepted, main's type has these first-order types and the erased program fits the passes, each value to which main evaluates over lemmas is data, which the module answers as the
-- headline has it of evaluation
abbrev pub ValuesOverLemmasAreAnswered : Type 0
ValuesOverLemmasAreAnswered =
    (e : RawEnv) (E : Env) (T : Term) → IsAcceptedAs e E T → (types : List Shape) (P : BoxProgram) (pages : ℕ) → IsFirstOrder E T (members types) → IsErasedTo E e.main P → FitsPasses P →
    0 < pages → pages ≤ 16384 → (v : Term) (n : ℕ) → EvaluatesOverLemmas E e.main v n → (tree : Data) × AnswersValue E e.main types P pages v n tree
