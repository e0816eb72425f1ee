-- What every run of a called program's module does, from the laws of the passes with arguments.
use Rattle.std.proofs.Common.{◌≡◌, ℕ, suc, ◌+◌, ◌*◌, ◌≤◌, List, length, Bool, true, false, Option, Some, None, ◌⊎◌, inl, inr, refl, sym, ap, ◌∙◌, subst, arith, le-leb}
use Rattle.std.specs.Prelude.{slice_get, ◌&&◌, if◌then◌else◌}
use Rattle.std.specs.Option.{option_and_then}
use Rattle.std.proofs.lemmas.Option.{same_Some}
use Rattle.box_terms.specs.BoxSyntax.{BoxTerm}
use Rattle.lambda_box.specs.BoxProgram.{BoxProgram, box_apply}
use Rattle.lambda_box.specs.BoxData.{Data}
use Rattle.lambda_box.specs.ClosureEvaluation.{Empty, bind_all, ClosureRun}
use Rattle.lambda_box.specs.DataTerms.{DataTerms, no_data, more_data}
use Rattle.box_passes.specs.PassLaws.{saturated_program}
use Rattle.box_passes.specs.PropMatch.{prop_match_program}
use Rattle.box_passes.specs.Saturate.{innermost}
use Rattle.box_passes.proofs.Keeping.{saturated_runs}
use Rattle.box_passes.proofs.PropMatch.{prop_match_keeps}
use Rattle.box_passes.proofs.PropMatchForm.{prop_match_form, prop_match_program_sizes}
use Rattle.box_passes.proofs.SaturatedWidths.{called_widths}
use Rattle.shrink_passes.specs.ShrunkProgram.{shrunk_program}
use Rattle.shrink_passes.proofs.ShrunkPrograms.{shrunk_forms, shrunk_keeps}
use Rattle.anf_convert.specs.AnfData.{DataTrees}
use Rattle.anf_convert.specs.Preorder.{fields_of as count, preorder}
use Rattle.anf_convert.specs.ToAnf.{to_anf}
use Rattle.anf_convert.proofs.Follows.{to_anf_keeps}
use Rattle.anf_convert.proofs.Forms.{to_anf_forms}
use Rattle.anf_convert.proofs.Preorder.{reads_tree}
use Rattle.anf_convert.proofs.Words.{words_bound}
use Rattle.closure_lift.specs.Lifted.{Program}
use Rattle.closure_lift.proofs.Follows.{lift_keeps}
use Rattle.closure_lift.proofs.Forms.{lift_forms}
use Rattle.wasm_core.specs.declared.entries.Entry.TheVariants.{Main}
use Rattle.wasm_core.specs.Parts.{Parts}
use Rattle.wasm_core.specs.Instance.{Func, func_of, segments_fit, greatest_pages}
use Rattle.wasm_core.specs.MachineStep.{State, Store, Conf, At, Reach}
use Rattle.wasm_core.specs.Entries.{index_of, from_nothing}
use Rattle.wasm_core.specs.Runs.{store_of}
use Rattle.wasm_core.specs.HostStore.{start_in, start_at_in, main_start_in}
use Rattle.wasm_core.specs.Answer.{Answers, Exhausted, exhausted, IsAtEnd}
use Rattle.wasm_core.specs.RunTree.{Fate, goes_on, ended, ran_out}
use Rattle.wasm_core.specs.WordData.{DataNodes}
use Rattle.wasm_emit.specs.CallLaws.{IsHosted, hosted}
use Rattle.wasm_emit.specs.CallModule.{call_globals, call_exports}
use Rattle.known_calls.specs.KnownModule.{worker_type}
use Rattle.known_calls.specs.KnownCalls.{call_function, module_of_call}
use Rattle.wasm_emit.specs.EmitLaws.{Spent, spent}
use Rattle.known_calls.specs.KnownLaws.{CallFinished}
use Rattle.wasm_emit.specs.EmittedModule.{type_main, main_index}
use Rattle.wasm_emit.specs.CallDepth.{call_depth}
use Rattle.known_calls.proofs.KnownCalling.{calls_answer}
use Rattle.wasm_emit.proofs.Indices.{entries_length}
use Rattle.wasm_emit.proofs.Shallow.{few_calls}
use Rattle.known_calls.proofs.KnownIndices.{main_in, main_at}
use Rattle.known_calls.proofs.KnownStatus.{calls_tell}
use Rattle.known_calls.proofs.KnownValidity.{calls_valid}
use Rattle.back_end.specs.BackEnd.{passed}
use Rattle.back_end.proofs.Total.{suffices}
use Rattle.call_answers.specs.HostedCall.{HoldsArguments}
use Rattle.call_answers.specs.EveryCall.{call_module_for, listed, CallRuns, EveryCallAnswers, CalledProgramsAnswer, CallModulesAreValid, CallStatusTells}
use Rattle.call_answers.proofs.SpineAnswers.{answers_applied}
use Rattle.call_answers.proofs.StoredTrees.{listed_count, one_list, arguments_stored, held_trees, anf_trees, lifted_trees}

terms_count : {P : BoxProgram} {us : List BoxTerm} {args : List Data} → DataTerms P us args → length us ≡ length args
terms_count no_data = refl
terms_count (more_data h hs) = ap suc (terms_count hs)

-- ---- the start of a run

module _ (P : Program) (k pages : ℕ) where
  abbrev M : Parts
  M = module_of_call P k pages

  fits : segments_fit M ≡ true
  fits = let n = suc (length P.functions) in ap (λ (b : Bool). b && true) (le-leb _ _ (omega (arith, entries_length 1 n)))

  starts_at : (s : Store) (index : ℕ) (g : Func) → index_of Main M ≡ Some index → func_of M index ≡ Some g → main_start_in M s ≡ Some (start_in s g)
  starts_at s index g exported is =
      ap (λ (b : Bool). if b then option_and_then (λ f. start_at_in M s f) (index_of Main M) else None) fits
      ∙ ap (option_and_then (λ f. start_at_in M s f)) exported
      ∙ ap (option_and_then (λ (g : Func). Some (start_in s g))) is

  call_starts : (s : Store) → main_start_in M s ≡ Some (start_in s (record { type = type_main; body = call_function P k }))
  call_starts s =
      let exported : index_of Main M ≡ Some (main_index P) = ap (λ (o : Option ℕ). option_and_then (λ index. option_and_then (λ t. from_nothing t.params t.result (main_index P)) (slice_get M.types index)) o) (main_in P (λ g f. 2) (λ t. 1) 0 (λ g f. worker_type f)) in
      starts_at s (main_index P) (record { type = type_main; body = call_function P k }) exported (main_at P (call_function P k) call_globals call_exports pages)

-- ---- runs that end

chosen : {M : Parts} {frames first heap bytes least k : ℕ} {d : DataNodes} {t : State} → bytes ≤ 65536 * greatest_pages M.memory → Fate M frames (CallFinished M d first heap bytes) (Spent M bytes) least k t → Exhausted M t →
    (store_of t).by_choice ≡ false → ⊥
chosen le (goes_on s u deep x y) gone e = elim gone [ ]
chosen le (ended q l) (exhausted z) e = elim q [ ]
chosen le (ran_out (spent x h)) (exhausted z) e = let lt = h e in omega (arith, le, lt)

few_wait : {M : Parts} {frames first heap bytes least k : ℕ} {d : DataNodes} {c : Conf} → Fate M frames (CallFinished M d first heap bytes) (Spent M bytes) least k (At c) → length c.callers ≤ frames
few_wait (goes_on s u few x y) = few
few_wait (ended q l) = elim q [ ]
few_wait (ran_out x) = elim x [ ]

-- a host's store is what the law of emission speaks of
store_is : {pages : ℕ} {args : List DataNodes} (s : Store) (h : HoldsArguments pages args s) → s ≡ hosted s.memory s.pages h.heap h.address
store_is s h = λ i. record { pages = s.pages; memory = s.memory; globals = h.globals i; refused = h.refused i; by_choice = h.by_choice i }

is_hosted : {pages : ℕ} {args : List DataNodes} (s : Store) (h : HoldsArguments pages args s) (ds : DataTrees) → listed ds ≡ args → IsHosted pages s.memory s.pages h.heap h.address ds
is_hosted {pages} s h ds e =
    let r = arguments_stored h.address h.stands h.room in
    subst (λ ds. IsHosted pages s.memory s.pages h.heap h.address ds) (one_list r.trees ds (r.same ∙ sym e))
    (record {
      whole = h.whole;
      most_pages = h.few;
      quarter = h.quarter;
      aligned = h.aligned;
      above = h.above;
      inside = h.inside;
      zero = h.zero;
      arguments = r.stored;
    })

pub called_programs_answer : CalledProgramsAnswer
called_programs_answer P args pages b n tree pos small some ok e =
    let form = ok.form in
    let S = shrunk_program P in
    let pm = prop_match_keeps P form e.terms args e.are e.value tree e.nodes e.matches e.evaluates e.reads in
    let sr = saturated_runs (prop_match_program P) (prop_match_form P form).0 e.terms args pm.0 pm.1.w tree pm.1.nodes pm.1.matches pm.1.evaluates pm.1.reads in
    let vs = sr.0 in
    let q = sr.2 in
    let run : ClosureRun (saturated_program P) (bind_all vs Empty) (box_apply (saturated_program P).main (innermost (length args))) q.v q.counts =
    subst (λ k. ClosureRun (saturated_program P) (bind_all vs Empty) (box_apply (saturated_program P).main (innermost k)) q.v q.counts) (terms_count pm.0) q.run in
    let sk = shrunk_keeps P form vs args sr.1 q.v tree q.counts run q.reads in
    let sf = shrunk_forms P form in
    let aa = answers_applied S sf.form sf.saturated vs args sr.1 sk.v tree sk.counts sk.run sk.reads in
    let ht = held_trees sr.1 in
    let ds = ht.trees in
    let rt = reads_tree aa.value tree aa.reads in
    let both = suffices P b ok in
    let anf = anf_trees ds in
    let vals = lifted_trees ds in
    let c = sk.counts in
    let x = to_anf_keeps S vs anf.0 ds aa.value rt.0 c both.0 ht.are anf.1 aa.answers rt.1 in
    let y = lift_keeps (to_anf S) c.greatest anf.0 vals.0 ds x.v rt.0 x.contractions c.matches c.blocks x.words anf.1 vals.1 x.answers x.is in
    let formed = lift_forms (to_anf S) b (to_anf_forms S b both.1) in
    let k = count ds in
    let same : k ≡ length args = sym (listed_count ds) ∙ ap length ht.same in
    let M = call_module_for P k pages in
    let most : ℕ = 64 * (c.blocks + y.contractions + 1) * (c.greatest + b) in
    record {
      contractions = y.contractions;
      blocks = c.blocks;
      widest = c.greatest;
      words = x.words;
      few_contractions = omega (arith, y.no_more, x.no_more, sk.no_more.contractions, q.contractions, pm.1.within, e.few);
      few_blocks = omega (arith, sk.no_more.blocks, q.blocks, pm.1.within, e.few);
      narrow = omega (arith, sk.no_more.greatest, called_widths (prop_match_program P) vs args sr.1 (length args) q.v q.counts run, (prop_match_program_sizes P).1);
      few_words = words_bound (to_anf S) c.greatest anf.0 x.v x.contractions c.matches c.blocks x.words x.answers;
      lifted = record {
        program = passed P;
        is = refl;
        trees = ds;
        given = ht.same;
        values = vals.0;
        are = vals.1;
        main = record { w = c.greatest; v = y.v; c = y.contractions; k = c.matches; b = c.blocks; l = x.words; evaluates = y.answers };
      };
      shallow = few_calls y.answers;
      runs = λ s h.
          let host = is_hosted s h ds ht.same in
          let at : Store = hosted s.memory s.pages h.heap h.address in
          let z = calls_answer (passed P) pages c.greatest b vals.0 ds y.v rt.0 y.contractions c.matches c.blocks x.words s.memory s.pages h.heap h.address pos small some formed ok.limits vals.1 y.answers y.is host in
          let given : (j : ℕ) (t : State) → Reach M j (start_in at z.main) t → IsAtEnd M t → Answers M tree t ⊎ Exhausted M t = λ j t r l. subst (λ (ns : DataNodes). Answers M ns t ⊎ Exhausted M t) rt.2 (z.answers j t r l) in
          let calls : ℕ = call_depth y.answers in
          let all : CallRuns M pages most (h.heap + 4 * x.words) calls tree at = record {
            first = start_in at z.main;
            starts = starts_at (passed P) k pages at z.index z.main z.exported z.is;
            bounded = λ j t r. (z.run j t r).0;
            answers = given;
            enough = λ le j t r l free. unless M tree t (given j t r l) (λ gone. chosen {frames = calls + 1} {first = s.pages} {heap = h.heap} {bytes = h.heap + 4 * x.words} {d = preorder rt.0} le (z.run j t r).1 gone free);
            waiting = λ j f r. few_wait (z.run j (At f) r).1;
          } in
          subst (λ k. CallRuns (call_module_for P k pages) pages most (h.heap + 4 * x.words) calls tree s) same
          (subst (λ s. CallRuns M pages most (h.heap + 4 * x.words) calls tree s) (sym (store_is s h)) all);
    }
  where
    unless : (m : Parts) (tree : Data) (t : State) → Answers m tree t ⊎ Exhausted m t → (Exhausted m t → ⊥) → Answers m tree t
    unless m tree t (inl a) never = a
    unless m tree t (inr x) never = absurd (never x)

pub call_modules_are_valid : CallModulesAreValid
call_modules_are_valid P k pages b pos small ok =
    let S = shrunk_program P in calls_valid (passed P) k pages b pos small (lift_forms (to_anf S) b (to_anf_forms S b (suffices P b ok).1))

pub call_status_tells : CallStatusTells
call_status_tells P args pages s small h first start k t r =
    let n = length args in
    let at = start_in s (record { type = type_main; body = call_function (passed P) n }) in
    let same : first ≡ at = same_Some _ _ (sym start ∙ call_starts (passed P) n pages s) in
    calls_tell (passed P) n pages s k t small (omega (arith, h.few, small)) (ap (λ gs. slice_get gs 1) h.globals) (subst (λ (f : State). Reach (call_module_for P n pages) k f t) same r)

-- so it is by more words
pub with_words : {m : Parts} {args : List Data} {pages w b n : ℕ} {tree : Data} (w' : ℕ) → w ≤ w' → EveryCallAnswers m args pages w b n tree → EveryCallAnswers m args pages w' b n tree
with_words w' le x = record {
  contractions = x.contractions;
  blocks = x.blocks;
  widest = x.widest;
  words = x.words;
  few_contractions = x.few_contractions;
  few_blocks = x.few_blocks;
  few_words = x.few_words;
  narrow = let few = x.narrow in omega (arith, few, le);
  lifted = x.lifted;
  shallow = x.shallow;
  runs = x.runs;
}
