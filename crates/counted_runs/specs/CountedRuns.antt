-- Bounds on the steps and the memory of runs by the counts of evaluation with environments, as statements. These counts are of what a run does, so they don't grow with the values that evaluation by
-- substitution goes through again.
use Rattle.std.specs.Prelude.{◌≡◌, ℕ, ◌+◌, ◌*◌, ◌<◌, ◌≤◌, false, List}
use Rattle.pc_terms.specs.Syntax.{Term}
use Rattle.calculus_rules.specs.Environment.{Env}
use Rattle.calculus_rules.specs.Evaluation.{Evaluates}
use Rattle.calculus_rules.specs.FirstOrder.{Data, IsFirstOrder}
use Rattle.dump_reader.specs.declared.environment.RawEnv.{RawEnv}
use Rattle.first_order.specs.declared.shapes.Shape.{Shape}
use Rattle.first_order.specs.Searching.{members}
use Rattle.lambda_box.specs.BoxProgram.{BoxProgram}
use Rattle.lambda_box.specs.BoxForm.{IsBoxProgram}
use Rattle.lambda_box.specs.ClosureEvaluation.{ClosureValue, Empty, Counts, ClosureRun, ValueReads}
use Rattle.lambda_box.specs.DataTerms.{greatest_words}
use Rattle.box_passes.specs.PassLaws.{saturated_program}
use Rattle.back_end.specs.BackEnd.{IsWithinPasses}
use Rattle.wasm_core.specs.MachineStep.{State, Reach}
use Rattle.wasm_core.specs.Runs.{store_of}
use Rattle.wasm_core.specs.Answer.{Answers, AnswersWithin, IsAtEnd}
use Rattle.headline.specs.AcceptedProgram.{IsAcceptedAs, IsErasedTo, FitsPasses}
use Rattle.headline.specs.EveryRun.{module_for, EvaluatesTo}
use Rattle.headline.specs.Headline.{IsExactly}
use Rattle.headline.specs.SourceWords.{source_branches}
use Rattle.counted_runs.specs.FewFrames.{HasFewFrames}

-- main of the saturated program, which the first two passes make of P, gives the data by evaluation with environments, with these counts; what the later passes make of it gives it with no more
pub record GivesWith (P : BoxProgram) (tree : Data) (c : Counts) : Type 0 where
  pub value : ClosureValue
  pub run : ClosureRun (saturated_program P) Empty (saturated_program P).main value c
  pub reads : ValueReads value tree

-- with b blocks, c contractions and no block of over w words, and with m branches of a match at most: every run of the module, whichever grows of memory are refused
pub record RunsByCounts (P : BoxProgram) (pages m : ℕ) (tree : Data) (c : Counts) : Type 0 where
  -- makes at most `64 * (b + c + 1) * (w + m)` steps, and answers the data or is exhausted where it can go no further
  pub answers : AnswersWithin (module_for P pages) (64 * (c.blocks + c.contractions + 1) * (c.greatest + m)) tree
  -- and where `4 * b * w + 8` bytes are within the maximum, it is exhausted only where a grow that the maximum allows was refused
  pub enough : 4 * (c.blocks * c.greatest) + 8 ≤ 65536 * pages → (k : ℕ) (t : State) → Reach (module_for P pages) k answers.first t → IsAtEnd (module_for P pages) t →
      (store_of t).by_choice ≡ false → Answers (module_for P pages) tree t

-- of a program of the form within the limits of the passes
abbrev pub CountsBoundRuns : Type 0
CountsBoundRuns =
    (P : BoxProgram) (pages m : ℕ) (tree : Data) (c : Counts) → 0 < pages → pages ≤ 16384 → 0 < m → IsWithinPasses P m → GivesWith P tree c → RunsByCounts P pages m tree c

-- and a machine that runs the module has a peak of at most two frames more than the program's call depth, which is at most c
abbrev pub PeaksGoByCallDepth : Type 0
PeaksGoByCallDepth =
    (P : BoxProgram) (pages m : ℕ) (tree : Data) (c : Counts) → 0 < pages → pages ≤ 16384 → 0 < m → IsWithinPasses P m → GivesWith P tree c → HasFewFrames P pages c.contractions

-- the counts of an evaluation by substitution with n nodes: they are there, and no greater than n allows
pub record HasCountsWithin (P : BoxProgram) (tree : Data) (n : ℕ) : Type 0 where
  pub counts : Counts
  pub gives : GivesWith P tree counts
  pub contractions : counts.contractions ≤ n
  pub blocks : counts.blocks ≤ 2 * n
  pub greatest : counts.greatest ≤ greatest_words P

abbrev pub EvaluationsHaveCounts : Type 0
EvaluationsHaveCounts = (P : BoxProgram) (tree : Data) (n : ℕ) → IsBoxProgram P → EvaluatesTo P tree n → HasCountsWithin P tree n

-- and they are one
abbrev pub CountsAreOne : Type 0
CountsAreOne = (P : BoxProgram) (tree other : Data) (c d : Counts) → IsBoxProgram P → GivesWith P tree c → GivesWith P other d → c ≡ d

-- main evaluates to a value in n nodes: it is this data, the erased program gives it with counts that n allows, and every run of its module is within the bounds of these counts and of its call depth
pub record AnswersByCounts (E : Env) (types : List Shape) (P : BoxProgram) (pages : ℕ) (v : Term) (n : ℕ) (tree : Data) : Type 0 where
  pub exactly : IsExactly E (members types) v tree
  pub counted : HasCountsWithin P tree n
  pub runs : RunsByCounts P pages (source_branches E) tree counted.counts
  pub frames : HasFewFrames P pages counted.counts.contractions

-- where an environment is accepted, main's type has these first-order types and the erased program fits the passes
abbrev pub ValuesAreAnsweredByCounts : Type 0
ValuesAreAnsweredByCounts =
    (e : RawEnv) (E : Env) (T : Term) → IsAcceptedAs e E T → (types : List Shape) (P : BoxProgram) (pages : ℕ) → IsFirstOrder E T (members types) → IsErasedTo E e.main P → FitsPasses P →
    0 < pages → pages ≤ 16384 → (v : Term) (n : ℕ) → Evaluates E e.main v n → (tree : Data) × AnswersByCounts E types P pages v n tree
