-- The headline: where an environment is accepted, main's type is first-order, and main's weak call-by-value evaluation gives a value, every long enough
-- run of the module that is made of it answers exactly that value, or is exhausted after a refused grow of memory.
use Rattle.std.specs.Prelude.{◌≡◌, ℕ, ◌<◌, ◌≤◌, List}
use Rattle.pc_terms.specs.Syntax.{Term}
use Rattle.calculus_rules.specs.Environment.{Env}
use Rattle.calculus_rules.specs.Evaluation.{Evaluates}
use Rattle.calculus_rules.specs.FirstOrder.{Shape as Member, IsFirstOrder, Data, Reads, FitsShapes}
use Rattle.dump_reader.specs.declared.environment.RawEnv.{RawEnv}
use Rattle.first_order.specs.declared.shapes.Shape.{Shape}
use Rattle.first_order.specs.Searching.{members}
use Rattle.first_order.specs.Texts.{HasNames}
use Rattle.lambda_box.specs.BoxProgram.{BoxProgram}
use Rattle.wasm_core.specs.ModuleTyping.{IsValid}
use Rattle.headline.specs.AcceptedProgram.{IsAcceptedAs, IsDerived, IsErasedTo, FitsPasses}
use Rattle.headline.specs.EveryRun.{module_for, EvaluatesTo, EveryRunAnswers}
use Rattle.headline.specs.SourceWords.{source_words, source_branches}
use Rattle.headline.specs.WrittenData.{IsWritten}

-- the value is this data, along the types of a first-order set, and no other
pub record IsExactly (E : Env) (S : List Member) (v : Term) (tree : Data) : Type 0 where
  pub reads : Reads E S 0 v tree
  pub only : (other : Data) → Reads E S 0 v other → other ≡ tree

-- the value is the data; the erased program evaluates to it, in no more nodes; every run of its module answers it or is exhausted, within the bounds that the
-- n nodes give; and it has a text at the types, which is the value's
pub record AnswersValue (E : Env) (main : Term) (types : List Shape) (P : BoxProgram) (pages : ℕ) (v : Term) (n : ℕ) (tree : Data) : Type 0 where
  pub exactly : IsExactly E (members types) v tree
  pub kept : EvaluatesTo P tree n
  pub runs : EveryRunAnswers P pages (source_words E main) (source_branches E) n tree
  pub fits : FitsShapes (members types) 0 tree
  pub text : (names : List (List ℕ)) → HasNames types names → IsWritten types names tree

-- an environment that is accepted is derived by the typing rules; and where main's type has these first-order types and the erased program fits the passes,
-- the module is valid, and each value to which main evaluates is data, which it answers
abbrev pub Headline : Type 0
Headline =
    (e : RawEnv) (E : Env) (T : Term) → IsAcceptedAs e E T →
    IsDerived e E T × ((types : List Shape) (P : BoxProgram) (pages : ℕ) → IsFirstOrder E T (members types) → IsErasedTo E e.main P → FitsPasses P → 0 < pages → pages ≤ 16384 →
    IsValid (module_for P pages) × ((v : Term) (n : ℕ) → Evaluates E e.main v n → (tree : Data) × AnswersValue E e.main types P pages v n tree))
