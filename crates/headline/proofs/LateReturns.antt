-- A run that returns has made at least as many steps as the evaluation of the saturated program has matches.
use Rattle.std.proofs.Common.{◌∙◌, ◌≤◌, List, [], length, refl, sym, subst, arith}
use Rattle.std.proofs.lemmas.Option.{same_Some}
use Rattle.trees.specs.Measures.{depth_limit}
use Rattle.lambda_box.specs.BoxProgram.{BoxFamily, Has}
use Rattle.lambda_box.specs.ClosureEvaluation.{Empty, NoValue, bind_all, ClosureRun}
use Rattle.lambda_box.specs.DataTerms.{no_data, hold_none}
use Rattle.box_passes.specs.PassLaws.{saturated_program}
use Rattle.box_passes.proofs.Matches.{same_matches}
use Rattle.box_passes.proofs.Passes.{passes_form}
use Rattle.shrink_passes.specs.ShrunkProgram.{shrunk_program}
use Rattle.shrink_passes.proofs.ShrunkPrograms.{shrunk_forms, shrunk_shallow, shrunk_keeps}
use Rattle.anf_convert.specs.AnfData.{DNil, anf_data_none}
use Rattle.anf_convert.specs.AnfEvaluation.{WNil}
use Rattle.anf_convert.specs.AnfForm.{AnfFormed}
use Rattle.anf_convert.specs.BoxForms.{ConstructorsWithin}
use Rattle.anf_convert.specs.ToAnf.{to_anf}
use Rattle.anf_convert.specs.ToAnfKeeps.{box_alone}
use Rattle.anf_convert.specs.ToAnfKeeps as anf
use Rattle.anf_convert.proofs.Follows.{to_anf_keeps}
use Rattle.anf_convert.proofs.Preorder.{reads_tree}
use Rattle.anf_convert.proofs.Prepared.{data_kept, form_kept, all_shallow}
use Rattle.wasm_core.specs.declared.ended.Ended.TheVariants.{Returned}
use Rattle.wasm_core.specs.MachineStep.{State, Over, Reach}
use Rattle.known_calls.proofs.KnownComposition.{anf_answers_known}
use Rattle.back_end.proofs.Whole.{families, no_values}
use Rattle.back_end.proofs.Lower.{returned}
use Rattle.headline.specs.EveryRun.{module_for, ReturnsTakeMatches}

pub late_returns : ReturnsTakeMatches
late_returns P pages b pos small some ok value tree nodes matches evaluates reads first k s starts reach =
    let O = saturated_program P in
    let S = shrunk_program P in
    let before = passes_form P ok.form in
    let kept = shrunk_forms P ok.form in
    let depths = shrunk_shallow P ok.form depth_limit ok.constants ok.main in
    let shallow = all_shallow S.constants depths.0 in
    let few : ConstructorsWithin S b = subst (λ (Fs : List BoxFamily). (F : BoxFamily) → Has Fs F → length F.args ≤ b) (sym kept.families) (families P.families b ok.constructors) in
    let formed : AnfFormed (to_anf S) b = form_kept S (to_anf S) refl shallow depths.1 kept.form kept.ordinary b few in
    let ready = (data_kept S (to_anf S) refl shallow depths.1 kept.form kept.ordinary).0 in
    let x = same_matches O before.form before.saturated [] [] no_data value tree nodes matches evaluates reads in
    let first_run = x.2 in
    let run = subst (λ vs. ClosureRun O (bind_all vs Empty) O.main first_run.v first_run.counts) (no_values x.1 refl) first_run.run in
    let r = shrunk_keeps P ok.form NoValue [] hold_none first_run.v tree first_run.counts run first_run.reads in
    let d = reads_tree r.v tree r.reads in
    let c = r.counts in
    let y = to_anf_keeps S NoValue WNil DNil r.v d.0 c ready anf.no_values anf_data_none (box_alone r.run) d.1 in
    let z = anf_answers_known (to_anf S) pages c.greatest b y.v d.0 y.contractions c.matches c.blocks y.words pos small some formed ok.limits y.answers y.is in
    let least = returned (z.emitted.run k (Over Returned s) (subst (λ (f : State). Reach (module_for P pages) k f (Over Returned s)) (same_Some _ _ (sym starts ∙ z.emitted.starts)) reach)).1 in
    omega (arith, first_run.matches, r.no_more.matches, least)
