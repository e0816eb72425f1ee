-- The headline for calls: where an environment is accepted, main's type has a signature, and main, applied to the source terms of data, evaluates weakly call by value to a value, every
-- long enough run of the module for calls, from a host's store that holds the data, answers exactly that value or is exhausted after a refused grow of memory.
use Rattle.std.specs.Prelude.{ℕ, ◌<◌, ◌≤◌, List, [], map, length}
use Rattle.pc_terms.specs.Syntax.{Term}
use Rattle.calculus_rules.specs.Environment.{Env}
use Rattle.calculus_rules.specs.Typing.{bare, Types}
use Rattle.calculus_rules.specs.Evaluation.{Evaluates}
use Rattle.calculus_rules.specs.FirstOrder.{Data, IsFirstOrder, FitsShapes}
use Rattle.dump_reader.specs.declared.environment.RawEnv.{RawEnv}
use Rattle.first_order.specs.declared.shapes.Shape.{Shape}
use Rattle.first_order.specs.Applied.{IsApplied}
use Rattle.first_order.specs.Searching.{members}
use Rattle.first_order.specs.Signature.{IsSignature}
use Rattle.first_order.specs.Texts.{HasNames}
use Rattle.lambda_box.specs.BoxProgram.{BoxProgram}
use Rattle.wasm_core.specs.ModuleTyping.{IsValid}
use Rattle.headline.specs.AcceptedProgram.{IsAcceptedAs, IsDerived, IsErasedTo, FitsPasses}
use Rattle.headline.specs.Headline.{IsExactly}
use Rattle.headline.specs.SourceWords.{source_branches, source_words}
use Rattle.headline.specs.WrittenData.{IsWritten}
use Rattle.applied_terms.specs.CallEvaluation.{CallEvaluatesTo, ArgumentsFitSets}
use Rattle.call_answers.specs.EveryCall.{call_module_for, EveryCallAnswers}

-- the value is the data, along the answer's types, and no other; the erased main evaluates to it on the arguments' data, in no more nodes; every run of the module from a store that holds
-- these answers it or is exhausted; and it has a text at the types, which is the value's
pub record AnswersCall (E : Env) (main : Term) (answer : List Shape) (P : BoxProgram) (arguments : List Data) (pages : ℕ) (v : Term) (n : ℕ) (tree : Data) : Type 0 where
  pub exactly : IsExactly E (members answer) v tree
  pub kept : CallEvaluatesTo P arguments tree n
  pub runs : EveryCallAnswers (call_module_for P (length arguments) pages) arguments pages (source_words E main) (source_branches E) n tree
  pub fits : FitsShapes (members answer) 0 tree
  pub text : (names : List (List ℕ)) → HasNames answer names → IsWritten answer names tree

-- main, applied to the source terms of these data, has a type, whose first-order types are the answer's
abbrev pub IsTypedCall : Env → Term → List Shape → Type 0
IsTypedCall E t answer = (U : Term) × Types bare E [] t U × IsFirstOrder E U (members answer)

-- Of an accepted environment whose main has these types as its signature, where the erased program fits the passes, the module for calls is valid; to data that fits, main can be applied; and
-- such an applied term has a type, and each value to which it evaluates is data, which the module answers
abbrev pub CallHeadline : Type 0
CallHeadline =
    (e : RawEnv) (E : Env) (T : Term) → IsAcceptedAs e E T →
    IsDerived e E T × ((takes : List (List Shape)) (answer : List Shape) (P : BoxProgram) (pages : ℕ) → IsSignature E T (map members takes) (members answer) → IsErasedTo E e.main P → FitsPasses P → 0 < pages → pages ≤ 16384 →
    IsValid (call_module_for P (length takes) pages) × ((arguments : List Data) → ArgumentsFitSets (map members takes) arguments → (t : Term) × IsApplied (map members takes) e.main arguments t) ×
    ((arguments : List Data) (t : Term) → IsApplied (map members takes) e.main arguments t → IsTypedCall E t answer ×
    ((v : Term) (n : ℕ) → Evaluates E t v n → (tree : Data) × AnswersCall E e.main answer P arguments pages v n tree)))
