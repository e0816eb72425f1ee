-- What programs after erasure, and their modules, answer of a sparing evaluation, as statements.
use Rattle.std.specs.Prelude.{ℕ, ◌<◌, ◌≤◌, List, []}
use Rattle.pc_terms.specs.Syntax.{Term}
use Rattle.box_terms.specs.BoxSyntax.{BoxTerm}
use Rattle.calculus_rules.specs.Environment.{Env}
use Rattle.calculus_rules.specs.Typing.{bare, Types}
use Rattle.calculus_rules.specs.Accepted.{IsAccepted}
use Rattle.calculus_rules.specs.FirstOrder.{Shape as Member, IsFirstOrder, Data, Reads, FitsShapes}
use Rattle.lambda_box.specs.BoxProgram.{BoxProgram}
use Rattle.lambda_box.specs.BoxEvaluation.{BoxEvaluates}
use Rattle.lambda_box.specs.BoxForm.{IsBoxProgram}
use Rattle.lambda_box.specs.BoxData.{BoxReads}
use Rattle.erase_laws.specs.Erases.{Erases}
use Rattle.erase_laws.specs.ErasedProgram.{HasErased}
use Rattle.dump_reader.specs.declared.environment.RawEnv.{RawEnv}
use Rattle.first_order.specs.declared.shapes.Shape.{Shape}
use Rattle.first_order.specs.Searching.{members}
use Rattle.first_order.specs.Texts.{HasNames}
use Rattle.headline.specs.AcceptedProgram.{IsAcceptedAs, IsErasedTo, FitsPasses}
use Rattle.headline.specs.EveryRun.{EvaluatesTo, EveryRunAnswers}
use Rattle.headline.specs.Headline.{IsExactly}
use Rattle.headline.specs.SourceWords.{source_words, source_branches}
use Rattle.headline.specs.WrittenData.{IsWritten}
use Rattle.sparing_laws.specs.SparingEvaluation.{EvaluatesSparingly}

-- main of a program after erasure has a value, to which it evaluates in at most n nodes
pub record HasErasedValue (P : BoxProgram) (n : ℕ) : Type 0 where
  pub value : BoxTerm
  pub nodes : ℕ
  pub matches : ℕ
  pub few : nodes ≤ n
  pub evaluates : BoxEvaluates P P.main value nodes matches

-- where main evaluates sparingly, its value is data along each first-order set of its type; and whatever value the erased program has is that data
abbrev pub SparingIsFollowed : Type 0
SparingIsFollowed =
    (E : Env) → IsAccepted E → (P : BoxProgram) → IsBoxProgram P → HasErased E P → (t v T : Term) (n : ℕ) → Types bare E [] t T → EvaluatesSparingly E t v n → Erases E [] t P.main →
    (S : List Member) → IsFirstOrder E T S → (d : Data) × Reads E S 0 v d × FitsShapes S 0 d × ((w : BoxTerm) (m k : ℕ) → BoxEvaluates P P.main w m k → BoxReads P w d)

-- the value is the data; where the erased program has a value, in m nodes, it is that data, and every run of its module answers it or is exhausted, within the bounds that the m nodes give; and
-- it has a text at the types
pub record AnswersSparingly (E : Env) (main : Term) (types : List Shape) (P : BoxProgram) (pages : ℕ) (v : Term) (tree : Data) : Type 0 where
  pub exactly : IsExactly E (members types) v tree
  pub kept : (m : ℕ) → HasErasedValue P m → EvaluatesTo P tree m
  pub runs : (m : ℕ) → HasErasedValue P m → EveryRunAnswers P pages (source_words E main) (source_branches E) m tree
  pub fits : FitsShapes (members types) 0 tree
  pub text : (names : List (List ℕ)) → HasNames types names → IsWritten types names tree

-- where an environment is accepted, main's type has these first-order types and the erased program fits the passes, each value to which main evaluates sparingly is data, which the module answers
-- where the erased program has a value
abbrev pub SparingValuesAreAnswered : Type 0
SparingValuesAreAnswered =
    (e : RawEnv) (E : Env) (T : Term) → IsAcceptedAs e E T → (types : List Shape) (P : BoxProgram) (pages : ℕ) → IsFirstOrder E T (members types) → IsErasedTo E e.main P → FitsPasses P →
    0 < pages → pages ≤ 16384 → (v : Term) (n : ℕ) → EvaluatesSparingly E e.main v n → (tree : Data) × AnswersSparingly E e.main types P pages v tree
