-- From all programs after erasure, and their evaluation by substitution, to runs of modules, through all passes.
use Rattle.std.specs.Prelude.{◌≡◌, ℕ, ◌+◌, ◌*◌, ◌<◌, ◌≤◌, length, Some}
use Rattle.trees.specs.Measures.{depth, depth_limit}
use Rattle.box_terms.specs.BoxSyntax.{BoxTerm}
use Rattle.lambda_box.specs.BoxProgram.{BoxConstant, BoxFamily, BoxProgram, Has}
use Rattle.lambda_box.specs.BoxForm.{IsBoxProgram}
use Rattle.lambda_box.specs.BoxEvaluation.{BoxEvaluates}
use Rattle.lambda_box.specs.BoxData.{Data as Nodes, BoxReads}
use Rattle.lambda_box.specs.DataTerms.{greatest_words}
use Rattle.box_passes.specs.PassLaws.{saturated_program}
use Rattle.shrink_passes.specs.ShrunkProgram.{shrunk_program}
use Rattle.closure_lift.specs.Lifted.{Program, VNil}
use Rattle.closure_lift.specs.Lift.{lift}
use Rattle.closure_lift.specs.LiftedForm.{Limits}
use Rattle.anf_convert.specs.ToAnf.{to_anf}
use Rattle.wasm_core.specs.ModuleTyping.{IsValid}
use Rattle.wasm_core.specs.ModuleCondition.{IsModule}
use Rattle.wasm_core.specs.MachineStep.{State, Reach}
use Rattle.wasm_core.specs.Runs.{main_start}
use Rattle.wasm_core.specs.Answer.{AnswersWithin}
use Rattle.wasm_core.specs.RunTree.{Fate}
use Rattle.known_calls.specs.KnownModule.{module_of}
use Rattle.wasm_emit.specs.CallDepth.{call_depth, MainEvaluates}
use Rattle.wasm_emit.specs.EmitLaws.{Spent, CountsFit}
use Rattle.known_calls.specs.KnownLaws.{FinishedWithin}

-- the program after all passes: matches on propositional families dropped, constructors saturated, constants with one use put in its place, parameters that are always box
-- dropped, A-normal form, lifted
abbrev pub passed : BoxProgram → Program
passed P = lift (to_anf (shrunk_program P))

-- a program of the form, where no family has over m constructors, within the limits: of depth after saturation, of captured words, and of functions
pub record IsWithinPasses (P : BoxProgram) (m : ℕ) : Type 0 where
  pub form : IsBoxProgram P
  pub constructors : (F : BoxFamily) → Has P.families F → length F.args ≤ m
  pub constants : (d : BoxConstant) → Has (saturated_program P).constants d → depth d.body ≤ depth_limit
  pub main : depth (saturated_program P).main ≤ depth_limit
  pub limits : Limits (passed P)

-- each run of the module, of an evaluation with n nodes that gives these nodes of data: its number of steps is bounded, and it goes on, where at most one frame more waits than the call depth of the
-- lifted program's evaluation, which is at most n, or answers the data after at least as many steps as the saturated program's evaluation has matches, or is exhausted after a refused grow; a grow past
-- the maximum is its cause only if the maximum is below these words and two more
pub record Answered (P : BoxProgram) (pages m : ℕ) (ns : Nodes) (n : ℕ) : Type 0 where
  pub first : State
  pub starts : main_start (module_of (passed P) pages) ≡ Some first
  pub lifted : MainEvaluates (passed P) VNil
  pub shallow : call_depth lifted.evaluates ≤ n
  pub words : ℕ
  pub few : words ≤ 2 * n * greatest_words P
  pub w : BoxTerm
  pub nodes : ℕ
  pub matches : ℕ
  pub saturated : BoxEvaluates (saturated_program P) (saturated_program P).main w nodes matches
  pub run : (k : ℕ) (t : State) → Reach (module_of (passed P) pages) k first t →
      (k ≤ 64 * (3 * n + 1) * (greatest_words P + m)) × Fate (module_of (passed P) pages) (call_depth lifted.evaluates + 1) (FinishedWithin (module_of (passed P) pages) ns (8 + 4 * words)) (Spent (module_of (passed P) pages) (8 + 4 * words)) matches k t
  pub always : AnswersWithin (module_of (passed P) pages) (64 * (3 * n + 1) * (greatest_words P + m)) ns

-- where main evaluates by substitution to data with n nodes, every run of the module answers that data or is exhausted
abbrev pub ModulesAnswer : Type 0
ModulesAnswer = (P : BoxProgram) (pages m : ℕ) (w : BoxTerm) (ns : Nodes) (n matched : ℕ) → 0 < pages → pages ≤ 16384 → 0 < m → IsWithinPasses P m → BoxEvaluates P P.main w n matched → BoxReads P w ns → Answered P pages m ns n

abbrev pub ModulesAreValid : Type 0
ModulesAreValid = (P : BoxProgram) (pages m : ℕ) → 0 < pages → pages ≤ 16384 → IsWithinPasses P m → IsValid (module_of (passed P) pages)

-- where besides no function has too many locals, bytes can spell the module
abbrev pub ModulesCanBeSpelled : Type 0
ModulesCanBeSpelled = (P : BoxProgram) (pages m : ℕ) → 0 < pages → pages ≤ 16384 → IsWithinPasses P m → CountsFit (passed P) m → IsModule (module_of (passed P) pages)
