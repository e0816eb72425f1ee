-- What every run of a program's module does, where main evaluates to data, with the bounds on steps, on memory and on frames.
use Rattle.std.specs.Prelude.{◌≡◌, ℕ, ◌+◌, ◌*◌, ◌<◌, ◌≤◌, length, false, Some}
use Rattle.box_terms.specs.BoxSyntax.{BoxTerm}
use Rattle.lambda_box.specs.BoxProgram.{BoxProgram}
use Rattle.lambda_box.specs.BoxEvaluation.{BoxEvaluates}
use Rattle.lambda_box.specs.BoxData.{Data, BoxReads}
use Rattle.lambda_box.specs.DataTerms.{greatest_words}
use Rattle.box_passes.specs.PassLaws.{saturated_program}
use Rattle.closure_lift.specs.Lifted.{VNil}
use Rattle.wasm_core.specs.Parts.{Parts}
use Rattle.wasm_core.specs.declared.ended.Ended.TheVariants.{Returned}
use Rattle.wasm_core.specs.MachineStep.{State, Store, Conf, At, Over, Reach}
use Rattle.wasm_core.specs.Runs.{main_start, store_of}
use Rattle.wasm_core.specs.Answer.{Answers, AnswersWithin, IsAtEnd}
use Rattle.wasm_emit.specs.CallDepth.{call_depth, MainEvaluates}
use Rattle.known_calls.specs.KnownModule.{module_of}
use Rattle.back_end.specs.BackEnd.{passed, IsWithinPasses}

-- the module that the passes and emission make of the program, whose memory may grow to so many pages
abbrev pub module_for : BoxProgram → ℕ → Parts
module_for P pages = module_of (passed P) pages

-- main evaluates to the data, in at most n nodes
pub record EvaluatesTo (P : BoxProgram) (tree : Data) (n : ℕ) : Type 0 where
  pub value : BoxTerm
  pub nodes : ℕ
  pub matches : ℕ
  pub few : nodes ≤ n
  pub evaluates : BoxEvaluates P P.main value nodes matches
  pub reads : BoxReads P value tree

-- every run of the module, whichever grows of memory are refused, by the evaluation's n nodes, w words and b branches of a match
pub record EveryRunAnswers (P : BoxProgram) (pages w b n : ℕ) (tree : Data) : Type 0 where
  -- no run makes more steps than this, and each that can go no further answers the data or is exhausted: it trapped with the status 1 after a refused grow
  pub answers : AnswersWithin (module_for P pages) (1024 * n * (w + b)) tree
  -- where so many bytes are within the maximum, it is exhausted only where a grow that the maximum allows was refused
  pub enough : 32 * n * w + 8 ≤ 65536 * pages → (k : ℕ) (t : State) → Reach (module_for P pages) k answers.first t →
      IsAtEnd (module_for P pages) t → (store_of t).by_choice ≡ false → Answers (module_for P pages) tree t
  -- the lifted program's main evaluates, with a call depth of at most n, and at most one frame more waits for the function that runs
  pub lifted : MainEvaluates (passed P) VNil
  pub shallow : call_depth lifted.evaluates ≤ n
  pub waiting : (k : ℕ) (c : Conf) → Reach (module_for P pages) k answers.first (At c) → length c.callers ≤ call_depth lifted.evaluates + 1
  -- a run that returns has made at least as many steps as the evaluation of the saturated program has matches
  pub least : (value : BoxTerm) (nodes matches k : ℕ) (s : Store) → BoxEvaluates (saturated_program P) (saturated_program P).main value nodes matches →
      Reach (module_for P pages) k answers.first (Over Returned s) → matches ≤ k

-- of a program of the form within the limits of the passes, with at most w words, and at most b constructors in a family
abbrev pub EvaluatedProgramsAnswer : Type 0
EvaluatedProgramsAnswer =
    (P : BoxProgram) (pages w b n : ℕ) (tree : Data) → 0 < pages → pages ≤ 16384 → 0 < b → greatest_words P ≤ w → IsWithinPasses P b → EvaluatesTo P tree n → EveryRunAnswers P pages w b n tree

-- whether main of the program evaluates or not: where the saturated program's main evaluates to data, each run of the module that returns has made at least
-- as many steps as that evaluation has matches
abbrev pub ReturnsTakeMatches : Type 0
ReturnsTakeMatches =
    (P : BoxProgram) (pages b : ℕ) → 0 < pages → pages ≤ 16384 → 0 < b → IsWithinPasses P b → (value : BoxTerm) (tree : Data) (nodes matches : ℕ) →
    BoxEvaluates (saturated_program P) (saturated_program P).main value nodes matches → BoxReads (saturated_program P) value tree →
    (first : State) (k : ℕ) (s : Store) → main_start (module_for P pages) ≡ Some first → Reach (module_for P pages) k first (Over Returned s) → matches ≤ k
