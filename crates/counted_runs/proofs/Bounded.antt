-- The bounds by the counts, from the laws of all passes.
use Rattle.std.proofs.Common.{◌≡◌, ℕ, ◌+◌, ◌*◌, ◌≤◌, false, [], ◌⊎◌, inl, inr, sym, ◌∙◌, subst, arith}
use Rattle.std.proofs.lemmas.Option.{same_Some}
use Rattle.lambda_box.specs.ClosureEvaluation.{Empty, NoValue}
use Rattle.lambda_box.specs.DataTerms.{hold_none}
use Rattle.lambda_box.proofs.OneRun.{runs_are_one}
use Rattle.box_passes.specs.PassLaws.{saturated_program}
use Rattle.box_passes.proofs.Passes.{passes_form, passes_count}
use Rattle.shrink_passes.specs.ShrunkProgram.{shrunk_program}
use Rattle.shrink_passes.proofs.ShrunkPrograms.{shrunk_keeps}
use Rattle.anf_convert.proofs.Preorder.{reads_tree}
use Rattle.closure_lift.specs.Lifted.{VNil}
use Rattle.back_end.specs.BackEnd.{passed}
use Rattle.back_end.proofs.Composition.{back_end}
use Rattle.back_end.proofs.Total.{suffices}
use Rattle.back_end.proofs.Whole.{product_le}
use Rattle.wasm_core.specs.Parts.{Parts}
use Rattle.wasm_core.specs.Instance.{greatest_pages}
use Rattle.wasm_core.specs.MachineStep.{State, At, Reach}
use Rattle.wasm_core.specs.Runs.{store_of}
use Rattle.wasm_core.specs.RunTree.{Fate, goes_on, ended, ran_out}
use Rattle.wasm_core.specs.Answer.{Answers, Exhausted, exhausted, AnswersWithin}
use Rattle.wasm_core.specs.WordData.{DataNodes as Nodes}
use Rattle.wasm_emit.specs.CallDepth.{call_depth, MainEvaluates}
use Rattle.wasm_emit.specs.EmitLaws.{Spent, spent}
use Rattle.known_calls.specs.KnownLaws.{FinishedWithin}
use Rattle.wasm_emit.proofs.Answering.{longer}
use Rattle.wasm_emit.proofs.OneDepth.{call_depths_are_one}
use Rattle.headline.specs.SourceWords.{source_branches}
use Rattle.headline.specs.EveryRun.{module_for}
use Rattle.headline.proofs.Composed.{headline}
use Rattle.headline.proofs.EachRun.{few_wait}
use Rattle.headline.proofs.SourceSizes.{of_source}
use Rattle.counted_runs.specs.CountedRuns.{CountsBoundRuns, PeaksGoByCallDepth, EvaluationsHaveCounts, CountsAreOne, ValuesAreAnsweredByCounts}
use Rattle.counted_runs.proofs.Peaks.{few_at_once}

-- a run that no refused grow within the maximum ended, and whose memory suffices, isn't exhausted
past_memory : {M : Parts} {frames bytes least k : ℕ} {tree : Nodes} {t : State} → Fate M frames (FinishedWithin M tree bytes) (Spent M bytes) least k t → Exhausted M t →
    bytes ≤ 65536 * greatest_pages M.memory → (store_of t).by_choice ≡ false → Answers M tree t
past_memory (goes_on s t l p q) x le e = elim x [ ]
past_memory (ended q l) (exhausted x) le e = elim q [ ]
past_memory (ran_out (spent x h)) (exhausted y) le e = let lt = h e in absurd (omega arith)

unless_exhausted : {M : Parts} {frames bytes least k : ℕ} {tree : Nodes} {t : State} → Answers M tree t ⊎ Exhausted M t → Fate M frames (FinishedWithin M tree bytes) (Spent M bytes) least k t →
    bytes ≤ 65536 * greatest_pages M.memory → (store_of t).by_choice ≡ false → Answers M tree t
unless_exhausted (inl a) f le e = a
unless_exhausted (inr x) f le e = past_memory f x le e

pub counts_bound_runs : CountsBoundRuns
counts_bound_runs P pages m tree c pos small some ok given =
    let S = shrunk_program P in
    let M = module_for P pages in
    let g = shrunk_keeps P ok.form NoValue [] hold_none given.value tree c given.run given.reads in
    let k = g.counts in
    let less = g.no_more in
    let blocks = less.blocks in
    let contractions = less.contractions in
    let greatest = less.greatest in
    let d = reads_tree g.v tree g.reads in
    let both = suffices P m ok in
    let r = back_end S pages m g.v d.0 k pos small some both.0 both.1 ok.limits g.run d.1 in
    let bound : 64 * (k.blocks + k.contractions + 1) * (k.greatest + m) ≤ 64 * (c.blocks + c.contractions + 1) * (c.greatest + m) =
    product_le (64 * (k.blocks + k.contractions + 1)) (64 * (c.blocks + c.contractions + 1)) (k.greatest + m) (c.greatest + m) (omega arith) (omega arith) in
    let bytes : k.blocks * k.greatest ≤ c.blocks * c.greatest = product_le k.blocks c.blocks k.greatest c.greatest blocks greatest in
    let all : AnswersWithin M (64 * (c.blocks + c.contractions + 1) * (c.greatest + m)) tree =
    longer bound (subst (λ (y : Nodes). AnswersWithin M (64 * (k.blocks + k.contractions + 1) * (k.greatest + m)) y) d.2 r.runs.emitted.always) in
    record {
      answers = all;
      enough = λ big n t reach end free.
          let fate = (r.runs.emitted.run n t (subst (λ (f : State). Reach M n f t) (same_Some _ _ (sym all.starts ∙ r.runs.emitted.starts)) reach)).1 in
          let few = r.few in
          unless_exhausted (all.answers n t reach end)
          (subst (λ (y : Nodes). Fate M (call_depth r.runs.evaluates + 1) (FinishedWithin M y (8 + 4 * r.words)) (Spent M (8 + 4 * r.words)) k.matches n t) d.2 fate) (omega (arith, few, bytes, big)) free;
    }

pub peaks_go_by_call_depth : PeaksGoByCallDepth
peaks_go_by_call_depth P pages m tree c pos small some ok given =
    let S = shrunk_program P in
    let g = shrunk_keeps P ok.form NoValue [] hold_none given.value tree c given.run given.reads in
    let d = reads_tree g.v tree g.reads in
    let both = suffices P m ok in
    let k = g.counts in
    let y = back_end S pages m g.v d.0 k pos small some both.0 both.1 ok.limits g.run d.1 in
    let r = y.runs in
    let calls : ℕ = call_depth r.evaluates in
    let lifted : MainEvaluates (passed P) VNil = record { w = k.greatest; v = r.v; c = r.contractions; k = k.matches; b = k.blocks; l = y.words; evaluates = r.evaluates } in
    let less = g.no_more in
    let contractions = less.contractions in
    record {
      lifted = lifted;
      one = λ other. call_depths_are_one (passed P) VNil other lifted;
      shallow = omega (arith, r.shallow, contractions);
      peak = λ a p same x. omega (arith, few_at_once P pages r.emitted.first (calls + 1) r.emitted.starts (λ n t reach. few_wait (r.emitted.run n (At t) reach).1) a p same x);
    }

pub evaluations_have_counts : EvaluationsHaveCounts
evaluations_have_counts P tree n form e =
    let x = passes_count P form e.value tree e.nodes e.matches e.evaluates e.reads in
    let few = e.few in let c = x.contractions in let b = x.blocks in
    record { counts = x.counts; gives = record { value = x.v; run = x.run; reads = x.reads }; contractions = omega arith; blocks = omega arith; greatest = x.greatest }

pub counts_are_one : CountsAreOne
counts_are_one P tree other c d form g h =
    let S = saturated_program P in
    (runs_are_one S (passes_form P form).form Empty S.main g.value h.value c d g.run h.run).1

pub values_are_answered_by_counts : ValuesAreAnsweredByCounts
values_are_answered_by_counts e E T accepted types P pages first erased fits pos small v n x =
    let within = (of_source e E T P accepted erased fits).within in
    let (tree, a) = ((headline e E T accepted).1 types P pages first erased fits pos small).1 v n x in
    let c = evaluations_have_counts P tree n within.form a.kept in (
      tree,
      record {
        exactly = a.exactly;
        counted = c;
        runs = counts_bound_runs P pages (source_branches E) tree c.counts pos small (omega arith) within c.gives;
        frames = peaks_go_by_call_depth P pages (source_branches E) tree c.counts pos small (omega arith) within c.gives;
      },
    )
