-- The laws of all passes together, for all programs of the form.
use Rattle.std.proofs.Common.{ℕ, ◌+◌, ◌*◌, ◌≤◌, List, length, sym, subst, arith}
use Rattle.trees.specs.Measures.{depth_limit}
use Rattle.lambda_box.specs.BoxProgram.{BoxFamily, BoxProgram, Has}
use Rattle.lambda_box.specs.BoxData.{Data as Nodes}
use Rattle.lambda_box.specs.DataTerms.{greatest_words}
use Rattle.shrink_passes.specs.ShrunkProgram.{shrunk_program}
use Rattle.shrink_passes.proofs.ShrunkPrograms.{shrunk_forms, shrunk_shallow, shrunk_runs}
use Rattle.anf_convert.specs.ToAnfKeeps.{CanBeConverted}
use Rattle.anf_convert.specs.TermForm.{ProgramFits}
use Rattle.anf_convert.specs.BoxForms.{ConstructorsWithin}
use Rattle.anf_convert.proofs.Preorder.{reads_tree}
use Rattle.anf_convert.proofs.Prepared.{all_shallow, shallow_suffices}
use Rattle.wasm_core.specs.Answer.{AnswersWithin}
use Rattle.wasm_core.specs.RunTree.{Fate}
use Rattle.anf_convert.specs.ToAnf.{to_anf}
use Rattle.anf_convert.proofs.Forms.{to_anf_forms}
use Rattle.closure_lift.proofs.Forms.{lift_forms}
use Rattle.known_calls.specs.KnownModule.{module_of}
use Rattle.wasm_emit.specs.CallDepth.{call_depth}
use Rattle.wasm_emit.specs.EmitLaws.{Spent}
use Rattle.known_calls.specs.KnownLaws.{FinishedWithin}
use Rattle.wasm_emit.proofs.Answering.{longer}
use Rattle.known_calls.proofs.KnownSpelling.{known_spelled}
use Rattle.back_end.specs.BackEnd.{passed, IsWithinPasses, ModulesAnswer, ModulesAreValid, ModulesCanBeSpelled}
use Rattle.back_end.proofs.Composition.{back_end, back_end_valid}
use Rattle.back_end.proofs.Whole.{families, product_le}

pub suffices : (P : BoxProgram) (m : ℕ) → IsWithinPasses P m → CanBeConverted (shrunk_program P) × ProgramFits (shrunk_program P) m
suffices P m ok =
    let S = shrunk_program P in
    let form = shrunk_forms P ok.form in
    let shallow = shrunk_shallow P ok.form depth_limit ok.constants ok.main in
    let few : ConstructorsWithin S m = subst (λ (Fs : List BoxFamily). (F : BoxFamily) → Has Fs F → length F.args ≤ m) (sym form.families) (families P.families m ok.constructors) in
    shallow_suffices S form.form form.ordinary (all_shallow S.constants shallow.0) shallow.1 m few

pub total_back_end : ModulesAnswer
total_back_end P pages m w ns n matched pos small some ok evaluates reads =
    let S = shrunk_program P in
    let x = shrunk_runs P ok.form w ns n matched evaluates reads in
    let c = x.counts in
    let d = reads_tree x.v ns x.reads in
    let both = suffices P m ok in
    let r = back_end S pages m x.v d.0 c pos small some both.0 both.1 ok.limits x.run d.1 in
    let y = r.runs.emitted in
    let frames = call_depth r.runs.evaluates + 1 in
    let blocks = x.blocks in
    let contractions = x.contractions in
    let wide = x.greatest in
    let M = module_of (passed P) pages in
    let bound : 64 * (c.blocks + c.contractions + 1) * (c.greatest + m) ≤ 64 * (3 * n + 1) * (greatest_words P + m) = product_le (64 * (c.blocks + c.contractions + 1)) (64 * (3 * n + 1)) (c.greatest + m) (greatest_words P + m) (omega arith) (omega arith) in
    record {
      first = y.first;
      starts = y.starts;
      lifted = record { w = c.greatest; v = r.runs.v; c = r.runs.contractions; k = c.matches; b = c.blocks; l = r.words; evaluates = r.runs.evaluates };
      shallow = omega (arith, r.runs.shallow, contractions);
      words = r.words;
      few = omega (arith, r.few, product_le c.blocks (2 * n) c.greatest (greatest_words P) blocks wide);
      w = x.substituted.w;
      nodes = x.substituted.nodes;
      matches = x.substituted.matches;
      saturated = x.substituted.evaluates;
      run = λ k t reach.
          let h = y.run k t reach in (
            omega (arith, h.0, bound),
            subst (λ z. Fate M frames (FinishedWithin M ns (8 + 4 * r.words)) (Spent M (8 + 4 * r.words)) z k t) x.matches (subst (λ (nodes : Nodes). Fate M frames (FinishedWithin M nodes (8 + 4 * r.words)) (Spent M (8 + 4 * r.words)) c.matches k t) d.2 h.1),
          );
      always = longer bound (subst (λ (nodes : Nodes). AnswersWithin M (64 * (c.blocks + c.contractions + 1) * (c.greatest + m)) nodes) d.2 y.always);
    }

pub total_valid : ModulesAreValid
total_valid P pages m pos small ok = back_end_valid (shrunk_program P) pages m pos small (suffices P m ok).1

pub total_spelled : ModulesCanBeSpelled
total_spelled P pages m pos small ok counts = known_spelled (passed P) pages m pos small (lift_forms (to_anf (shrunk_program P)) m (to_anf_forms (shrunk_program P) m (suffices P m ok).1)) ok.limits counts
