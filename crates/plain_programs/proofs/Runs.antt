-- How the run of a module ends whose program is a constructor without arguments.
use Rattle.std.proofs.Common.{◌≡◌, ℕ, ◌+◌, ◌*◌, ◌<◌, ◌≤◌, [], ◌∷◌, length, Result, Ok, Err, true, false, refl, sym, ◌∙◌, arith, lit<}
use Rattle.pc_terms.specs.declared.leaf.FamilyId.{FamilyId}
use Rattle.lambda_box.specs.BoxProgram.{BoxProgram}
use Rattle.lambda_box.specs.BoxForm.{IsBoxProgram}
use Rattle.lambda_box.specs.DataTerms.{greatest_words}
use Rattle.wasm_core.specs.declared.ended.Ended.TheVariants.{Trapped}
use Rattle.wasm_core.specs.declared.ended.TrapKind.{TrapKind}
use Rattle.wasm_core.specs.Parts.{Parts}
use Rattle.wasm_core.specs.Instance.{greatest_pages}
use Rattle.wasm_core.specs.MachineStep.{State, Over}
use Rattle.wasm_core.specs.WordData.{DataNodes}
use Rattle.wasm_core.proofs.Trees.{moves_are_steps}
use Rattle.known_calls.specs.KnownModule.{module_of}
use Rattle.back_end.specs.BackEnd.{passed, Answered}
use Rattle.back_end.specs.StepsAndMemory.{Bounded}
use Rattle.compile.proofs.Within.{fits_answer}
use Rattle.module_run.specs.Ends.{Ends, IsTrapped}
use Rattle.module_run.specs.declared.answer.Answer.{Answer}
use Rattle.module_run.specs.declared.refusal.RunRefusal.{RunRefusal}
use Rattle.module_run.specs.declared.refusal.RunRefusal.TheVariants as refusals
use Rattle.module_run.proofs.OneEnd.{ends_answer}
use Rattle.headline.proofs.PastMaximum.{past_maximum}
use Rattle.plain_programs.specs.PlainProgram.{IsPlainProgram}
use Rattle.plain_programs.specs.Laws.{PlainRunsAnswer, EndsSo}
use Rattle.plain_programs.proofs.Passed.{programs_fit, modules_are_small, programs_evaluate}

module _ (P : BoxProgram) (f : FamilyId) (c pages steps : ℕ) (pos : 0 < pages) (small : pages ≤ 16384) (enough : 1052672 ≤ steps) (form : IsBoxProgram P) (h : IsPlainProgram P f c) where
  abbrev M : Parts
  M = module_of (passed P) pages

  abbrev tree : DataNodes
  tree = (c, 0) ∷ []

  runs : Answered P pages 1024 tree 1 × Bounded P pages 1024 1
  runs =
      let e = programs_evaluate P f c h in
      fits_answer P pages 1024 P.main tree 1 0 pos small (lit< tt) form (programs_fit P f c h).0 (λ F has. (form.counts F has).constructors) e.0 e.1

  words : greatest_words P ≡ 4
  words = (programs_fit P f c h).1

  not_trapped : (kind : TrapKind) → IsTrapped M pages steps kind 1 → ⊥
  not_trapped kind x =
      let run = x.run in
      let greatest : greatest_pages M.memory ≡ pages = refl in
      let t : State = Over (Trapped kind) x.store in
      let choice : x.store.by_choice ≡ false = past_maximum M pages run.steps run.first t (omega (arith, greatest)) run.starts run.moves in
      let other : x.store.by_choice ≡ true = runs.1.memory (omega (arith, words, pos)) run.first run.steps kind x.store run.starts (moves_are_steps M pages run.steps run.first t run.moves) in
      let never : true ≡ false = sym other ∙ choice in absurd cc

  -- the law for data says of each end but two that it is none
  pub ended : (r : Result Answer RunRefusal) → Ends M pages steps r → EndsSo c r
  ended (Ok a) y = ends_answer M pages (64 * (3 * 1 + 1) * (greatest_words P + 1024)) steps tree (Ok a) runs.0.always y
  ended (Err refusals.ModuleBytes) y = let few = modules_are_small P f c pages form h in absurd (omega (arith, few, y))
  ended (Err refusals.StepsSpent) y =
      let more = ends_answer M pages (64 * (3 * 1 + 1) * (greatest_words P + 1024)) steps tree (Err refusals.StepsSpent) runs.0.always y in
      absurd (omega (arith, more, words, enough))
  ended (Err refusals.Exhausted) (few, (kind, x)) = absurd (not_trapped kind x)
  ended (Err (refusals.Trapped kind)) y = absurd (ends_answer M pages (64 * (3 * 1 + 1) * (greatest_words P + 1024)) steps tree (Err (refusals.Trapped kind)) runs.0.always y)
  ended (Err (refusals.NoValue word)) y = absurd (ends_answer M pages (64 * (3 * 1 + 1) * (greatest_words P + 1024)) steps tree (Err (refusals.NoValue word)) runs.0.always y)
  ended (Err refusals.AnswerNodes) y =
      let more = ends_answer M pages (64 * (3 * 1 + 1) * (greatest_words P + 1024)) steps tree (Err refusals.AnswerNodes) runs.0.always y in
      let one : length tree ≡ 1 = refl in
      absurd (omega (arith, more, one))
  ended (Err refusals.Memory) y = refl

pub runs_answer : PlainRunsAnswer
runs_answer P f c pages steps r pos small enough form h y = ended P f c pages steps pos small enough form h r y
