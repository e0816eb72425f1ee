-- The lower bound on steps.
use Rattle.std.proofs.Common.{ℕ, ◌≤◌, [], refl, sym, ◌∙◌, subst, arith}
use Rattle.std.proofs.lemmas.Option.{same_Some}
use Rattle.lambda_box.specs.ClosureEvaluation.{Empty, bind_all, ClosureRun}
use Rattle.lambda_box.specs.DataTerms.{no_data}
use Rattle.box_passes.proofs.Matches.{same_matches}
use Rattle.anf_convert.proofs.Preorder.{reads_tree}
use Rattle.anf_convert.proofs.BoxForms.{form_suffices}
use Rattle.wasm_core.specs.declared.ended.Ended.TheVariants.{Returned}
use Rattle.wasm_core.specs.Parts.{Parts}
use Rattle.wasm_core.specs.MachineStep.{State, Store, Over, Reach}
use Rattle.wasm_core.specs.RunTree.{Fate, ended, ran_out}
use Rattle.known_calls.specs.KnownModule.{module_of}
use Rattle.wasm_emit.specs.EmitLaws.{Spent}
use Rattle.closure_lift.specs.Lift.{lift}
use Rattle.anf_convert.specs.ToAnf.{to_anf}
use Rattle.back_end.specs.StepsAtLeast.{AnswersTakeAsManySteps}
use Rattle.back_end.proofs.Composition.{back_end}
use Rattle.back_end.proofs.Whole.{no_values}

-- what has returned isn't exhausted
pub returned : {M : Parts} {frames bytes : ℕ} {Q : State → Type 0} {least k : ℕ} {s : Store} → Fate M frames Q (Spent M bytes) least k (Over Returned s) → least ≤ k
returned (ended q le) = le
returned (ran_out x) = elim x [ ]

pub lower_bound : AnswersTakeAsManySteps
lower_bound P pages m w ns n matches pos small some ok evaluates reads first k s starts reach =
    let x = same_matches P ok.form ok.saturated [] [] no_data w ns n matches evaluates reads in
    let r = x.2 in
    let run = subst (λ vs. ClosureRun P (bind_all vs Empty) P.main r.v r.counts) (no_values x.1 refl) r.run in
    let d = reads_tree r.v ns r.reads in
    let both = form_suffices P m ok.form ok.constants ok.main ok.constructors in
    let y = back_end P pages m r.v d.0 r.counts pos small some both.0 both.1 ok.limits run d.1 in
    let least = returned (y.runs.emitted.run k (Over Returned s) (subst (λ (f : State). Reach (module_of (lift (to_anf P)) pages) k f (Over Returned s)) (same_Some _ _ (sym starts ∙ y.runs.emitted.starts)) reach)).1 in
    omega (arith, r.matches, least)
