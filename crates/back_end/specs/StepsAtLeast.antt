-- Answers take at least as many steps as the evaluation has matches.
use Rattle.std.specs.Prelude.{◌≡◌, ℕ, ◌<◌, ◌≤◌, length, Some}
use Rattle.box_terms.specs.BoxSyntax.{BoxTerm}
use Rattle.lambda_box.specs.BoxProgram.{BoxConstant, BoxFamily, BoxProgram, Has}
use Rattle.lambda_box.specs.BoxForm.{IsBoxProgram}
use Rattle.lambda_box.specs.BoxEvaluation.{BoxEvaluates}
use Rattle.lambda_box.specs.BoxData.{Data as Nodes, BoxReads}
use Rattle.lambda_box.specs.SaturatedForm.{IsSaturated}
use Rattle.closure_lift.specs.Lift.{lift}
use Rattle.closure_lift.specs.LiftedForm.{Limits}
use Rattle.anf_convert.specs.ToAnf.{to_anf}
use Rattle.anf_convert.specs.BoxForms.{Prepared}
use Rattle.wasm_core.specs.declared.ended.Ended.TheVariants.{Returned}
use Rattle.wasm_core.specs.MachineStep.{State, Store, Over, Reach}
use Rattle.wasm_core.specs.Runs.{main_start}
use Rattle.known_calls.specs.KnownModule.{module_of}

-- a saturated program, from the passes before
pub record IsSaturatedProgram (P : BoxProgram) (m : ℕ) : Type 0 where
  pub form : IsBoxProgram P
  pub saturated : IsSaturated P
  pub constructors : (F : BoxFamily) → Has P.families F → length F.args ≤ m
  pub constants : (d : BoxConstant) → Has P.constants d → Prepared P d.body
  pub main : Prepared P P.main
  pub limits : Limits (lift (to_anf P))

-- where main of a saturated program evaluates by substitution to data with so many matches, each run of its module that returns has made at least as many steps
abbrev pub AnswersTakeAsManySteps : Type 0
AnswersTakeAsManySteps =
    (P : BoxProgram) (pages m : ℕ) (w : BoxTerm) (ns : Nodes) (n matches : ℕ) → 0 < pages → pages ≤ 16384 → 0 < m → IsSaturatedProgram P m → BoxEvaluates P P.main w n matches → BoxReads P w ns →
    (first : State) (k : ℕ) (s : Store) → main_start (module_of (lift (to_anf P)) pages) ≡ Some first → Reach (module_of (lift (to_anf P)) pages) k first (Over Returned s) → matches ≤ k
