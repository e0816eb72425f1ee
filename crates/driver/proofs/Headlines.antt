-- What `exec` answers where main, of a first-order type, evaluates to a value, and the bounds within which it answers data.
use Rattle.std.proofs.Common.{◌≡◌, ◌∙◌, ℕ, ◌+◌, ◌*◌, ◌<◌, ◌≤◌, List, Some, Ok, Err, ◌⊎◌, inl, inr, false, refl, sym, ap, subst, arith}
use Rattle.std.proofs.lemmas.Option.{same_Some}
use Rattle.pc_terms.specs.Syntax.{Term}
use Rattle.pc_rules.specs.declared.meter.Account.{Account}
use Rattle.calculus_rules.specs.Environment.{Env}
use Rattle.calculus_rules.specs.FirstOrder.{Data, IsFirstOrder}
use Rattle.calculus_rules.specs.Lawful.{IsLawfulEvaluation}
use Rattle.first_order.specs.Searching.{members, AreNamed}
use Rattle.lambda_box.specs.BoxProgram.{BoxProgram}
use Rattle.lambda_box.specs.BoxEvaluation.{BoxEvaluates}
use Rattle.lambda_box.specs.BoxData.{BoxReads}
use Rattle.lambda_box.specs.DataTerms.{greatest_words}
use Rattle.lambda_box.specs.ClosureEvaluation.{Counts}
use Rattle.box_passes.specs.PassLaws.{saturated_program}
use Rattle.wasm_core.specs.declared.ended.Ended.TheVariants.{Returned, Trapped}
use Rattle.wasm_core.specs.declared.ended.TrapKind.{TrapKind}
use Rattle.wasm_core.specs.ModuleTyping.{IsValid}
use Rattle.wasm_core.specs.Parts.{Parts}
use Rattle.wasm_core.specs.MachineStep.{State, Store, Over, Reach}
use Rattle.wasm_core.specs.Answer.{Answers, AnswersWithin, IsAtEnd}
use Rattle.wasm_core.specs.Runs.{main_start, store_of}
use Rattle.wasm_core.proofs.Trees.{moves_are_steps}
use Rattle.known_calls.specs.KnownModule.{module_of}
use Rattle.back_end.specs.BackEnd.{passed, IsWithinPasses}
use Rattle.back_end.proofs.Total.{total_valid}
use Rattle.compile.proofs.Within.{fits_within}
use Rattle.module_run.specs.Ends.{IsTrapped}
use Rattle.module_run.specs.declared.refusal.RunRefusal.TheVariants as running
use Rattle.module_run.proofs.OneEnd.{ends_answer}
use Rattle.headline.specs.AcceptedProgram.{IsAcceptedAs, IsErasedTo, FitsPasses, IsWithinSource}
use Rattle.headline.specs.EveryRun.{module_for, EvaluatesTo, EveryRunAnswers}
use Rattle.headline.specs.Headline.{IsExactly, AnswersValue as AnswersByLaw}
use Rattle.headline.specs.SourceWords.{source_words, source_branches}
use Rattle.headline.proofs.Composed.{lawful_evaluation, value_exactly, value_answered}
use Rattle.headline.proofs.EachRun.{each_run}
use Rattle.headline.proofs.LateReturns.{late_returns}
use Rattle.headline.proofs.PastMaximum.{past_maximum}
use Rattle.headline.proofs.SourceSizes.{of_source}
use Rattle.counted_runs.specs.CountedRuns.{GivesWith, HasCountsWithin, RunsByCounts}
use Rattle.counted_runs.proofs.Bounded.{counts_bound_runs, evaluations_have_counts}
use Rattle.command_line.specs.declared.line.Request.{Request}
use Rattle.command_line.specs.Line.{IsInRange}
use Rattle.dump_reader.specs.declared.environment.RawEnv.{RawEnv}
use Rattle.driver.specs.declared.refusal.Refusal.{Refusal}
use Rattle.driver.specs.declared.refusal.Refusal.TheVariants as refusals
use Rattle.driver.specs.declared.refusal.RunEnd.{RunEnd}
use Rattle.driver.specs.declared.refusal.RunEnd.TheVariants as ends
use Rattle.driver.specs.Lines.{status_of}
use Rattle.driver.specs.Texts.{SpellsWithin}
use Rattle.driver.specs.SourceEnds.{IsAcceptedWith}
use Rattle.driver.specs.SourceSays.{IsLine}
use Rattle.driver.specs.Serve.{IsCheckCause}
use Rattle.driver.specs.Bench.{steps_of}
use Rattle.driver.specs.ExecEnds.{Erasing, Compiling, Answering, StageRefuses, in_search, in_erasure, in_passes, in_run, in_text, IsExecCause, ExecEnds, ExecRunSays, TextRefuses, its_module, its_shapes, its_environment, its_type}
use Rattle.driver.specs.Executed.{HasErasedData}
use Rattle.driver.specs.Headline.{HasValue, IsTextOfValue, EvaluatesErased, GivesErased, HasMatches}
use Rattle.driver.proofs.SourceCauses.{accepts_inj, plainly}
use Rattle.driver.proofs.AcceptedAs.{accepted_as, erased_to}
use Rattle.driver.proofs.TextCauses.{is_spelled}
use Rattle.driver.proofs.ExecCauses.{one_program}
use Rattle.driver.proofs.ExecSaying.{no_argument, no_certificate, no_module, no_stuck}
use Rattle.driver.proofs.ExecValues.{no_other}

-- ---- the refusals of a run, of which the statuses 11, 12 and 15 are

data Late (request : Request) (e : RawEnv) (why : RunEnd) : Type 0 where
  of_run : (x : Compiling request.turns e) → ExecRunSays (its_module request.pages x) request.pages request.steps (Err (refusals.Run why)) → Late request e why
  of_text : (x : Answering request.turns e request.pages request.steps) → TextRefuses (its_shapes x.before.before) x.answer (refusals.Run why) → Late request e why

record IsLate (request : Request) (e : RawEnv) (r : Refusal) : Type 0 where
  why : RunEnd
  is : r ≡ refusals.Run why
  late : Late request e why

run_late : (request : Request) (e : RawEnv) (why : RunEnd) → StageRefuses request.turns e request.pages request.steps (refusals.Run why) → Late request e why
run_late request e why (in_search x w y) = absurd y
run_late request e why (in_erasure x w y) = absurd y
run_late request e why (in_passes x y) = absurd y
run_late request e why (in_run x valid y) = of_run x y
run_late request e why (in_text x valid y) = of_text x y

late_of : (request : Request) (e : RawEnv) (r : Refusal) → IsCheckCause request.turns r e ⊎ IsExecCause request.turns request.pages request.steps r e → 11 ≤ status_of r → IsLate request e r
late_of request e (refusals.Run why) (inl c) le = absurd c
late_of request e (refusals.Run why) (inr c) le = record { why = why; is = refl; late = run_late request e why c.1 }
late_of request e refusals.Stuck (inl c) le = absurd c
late_of request e refusals.Stuck (inr c) le = absurd (no_stuck request.turns e request.pages request.steps c.1)
late_of request e (refusals.Module w) (inl c) le = absurd c
late_of request e (refusals.Module w) (inr c) le = absurd (no_module request.turns e request.pages request.steps w c.1)
late_of request e (refusals.Argument w) (inl c) le = absurd c
late_of request e (refusals.Argument w) (inr c) le = absurd (no_argument request.turns e request.pages request.steps w c.1)
late_of request e (refusals.Certificate w) (inl c) le = absurd c
late_of request e (refusals.Certificate w) (inr c) le = absurd (no_certificate request.turns e request.pages request.steps w c.1)
late_of request e _ c le = absurd (omega (arith, le))

compiled : {request : Request} {e : RawEnv} {why : RunEnd} → Late request e why → Compiling request.turns e
compiled (of_run x y) = x
compiled (of_text x y) = x.before

-- ---- where every run of the module answers data

trap_answers : {M : Parts} {d : Data} {k : TrapKind} {s : Store} → Answers M d (Over (Trapped k) s) → ⊥
trap_answers a = elim a [ ]

-- every run of the module makes at most so many steps, and answers the data or is exhausted; and where so many bytes are within the maximum, it is exhausted only where a grow that the maximum allows was refused
record RunsWithin (P : BoxProgram) (pages most size : ℕ) (ds : Data) : Type 0 where
  answers : AnswersWithin (module_for P pages) most ds
  enough : size ≤ 65536 * pages → (k : ℕ) (t : State) → Reach (module_for P pages) k answers.first t → IsAtEnd (module_for P pages) t → (store_of t).by_choice ≡ false → Answers (module_for P pages) ds t

by_nodes : {P : BoxProgram} {pages w b n : ℕ} {ds : Data} → EveryRunAnswers P pages w b n ds → RunsWithin P pages (1024 * n * (w + b)) (32 * n * w + 8) ds
by_nodes r = record { answers = r.answers; enough = r.enough }

by_counts : {P : BoxProgram} {pages m : ℕ} {ds : Data} {c : Counts} → RunsByCounts P pages m ds c →
    RunsWithin P pages (64 * (c.blocks + c.contractions + 1) * (c.greatest + m)) (4 * (c.blocks * c.greatest) + 8) ds
by_counts r = record { answers = r.answers; enough = r.enough }

module _ (pages steps : ℕ) (P : BoxProgram) (most size : ℕ) (ds : Data) (r : RunsWithin P pages most size ds) where
  abbrev M : Parts
  M = module_of (passed P) pages

  -- no run traps where the bytes are within the maximum
  not_trapped : (kind : TrapKind) → IsTrapped M pages steps kind 1 → size ≤ 65536 * pages → ⊥
  not_trapped kind x big =
      let run = x.run in
      let t : State = Over (Trapped kind) x.store in
      let same : pages ≤ pages = omega arith in
      let choice : x.store.by_choice ≡ false = past_maximum M pages run.steps run.first t same run.starts run.moves in
      let reach : Reach M run.steps r.answers.first t = subst (λ (f : State). Reach M run.steps f t) (same_Some _ _ (sym run.starts ∙ r.answers.starts)) (moves_are_steps M pages run.steps run.first t run.moves) in
      trap_answers (r.enough big run.steps t reach (λ granted s st. st) choice)

-- ---- the stages, as the headline takes them

module _ (request : Request) (range : IsInRange request) (bytes : List ℕ) (e : RawEnv) (s : SpellsWithin bytes e) where
  pos : 0 < request.pages
  pos = omega (arith, range.pages.0)

  small : request.pages ≤ 16384
  small = omega (arith, range.pages.1)

  fits_passes : (x : Compiling request.turns e) → FitsPasses x.before.program
  fits_passes x =
      let w = fits_within x.before.program 1024 x.before.form x.fits (λ F has. (x.before.form.counts F has).constructors) in
      record { constants = w.constants; main = w.main; limits = w.limits }

  within_source : (x : Compiling request.turns e) → IsWithinSource (its_environment x.before) e.main x.before.program
  within_source x =
      let a = x.before.before.before in
      of_source e a.kept a.type x.before.program (accepted_as request.turns e (is_spelled bytes e s) a.kept a.type a.left a.accepted) (erased_to request.turns e x.before) (fits_passes x)

  -- the runs where the erased program evaluates to data
  -- the environment of a stage is that of any acceptance
  one_kept : (E : Env) (T : Term) (u : Account) → IsAcceptedWith request.turns e E T u → (x : Erasing request.turns e) → (E ≡ its_environment x) × (T ≡ its_type x)
  one_kept E T u h x =
      let a = x.before.before in
      let q = accepts_inj E a.kept T a.type u a.left (sym (plainly request.turns e E T u h) ∙ plainly request.turns e a.kept a.type a.left a.accepted) in
      (q.0, q.1)

  pub data_runs : (n : ℕ) (h : EvaluatesErased request.turns e n) (x : Compiling request.turns e) → EveryRunAnswers x.before.program request.pages (greatest_words h.stages.program) (source_branches (its_environment h.stages)) n h.tree
  data_runs n h x =
      let P = x.before.program in
      let a = h.stages.before.before in
      let same : h.stages.program ≡ P = one_program request.turns e h.stages x.before in
      let there : a.kept ≡ its_environment x.before = (one_kept a.kept a.type a.left a.accepted x.before).0 in
      let within : IsWithinPasses P (source_branches a.kept) = subst (λ E. IsWithinPasses P (source_branches E)) (sym there) (within_source x).within in
      let kept : EvaluatesTo P h.tree n = record {
        value = h.value;
        nodes = n;
        matches = h.matches;
        few = omega arith;
        evaluates = subst (λ (P : BoxProgram). BoxEvaluates P P.main h.value n h.matches) same h.evaluates;
        reads = subst (λ P. BoxReads P h.value h.tree) same h.reads;
      } in
      let words : greatest_words h.stages.program ≡ greatest_words P = ap greatest_words same in
      each_run P request.pages (greatest_words h.stages.program) (source_branches a.kept) n h.tree pos small (omega arith) (omega (arith, words)) within kept

  -- the runs where the saturated program gives data by evaluation with environments
  pub counted_runs : (c : Counts) (h : GivesErased request.turns e c) (x : Compiling request.turns e) → RunsByCounts x.before.program request.pages (source_branches (its_environment h.stages)) h.tree c
  counted_runs c h x =
      let P = x.before.program in
      let a = h.stages.before.before in
      let same : h.stages.program ≡ P = one_program request.turns e h.stages x.before in
      let there : a.kept ≡ its_environment x.before = (one_kept a.kept a.type a.left a.accepted x.before).0 in
      let within : IsWithinPasses P (source_branches a.kept) = subst (λ E. IsWithinPasses P (source_branches E)) (sym there) (within_source x).within in
      counts_bound_runs P request.pages (source_branches a.kept) h.tree c pos small (omega arith) within (subst (λ P. GivesWith P h.tree c) same h.gives)

  module _ (n : ℕ) (h : HasValue request.turns e n) where
    types_there : (x : Erasing request.turns e) → IsFirstOrder h.kept h.type (members (its_shapes x))
    types_there x =
        let q = one_kept h.kept h.type h.left h.accepted x in
        subst (λ E. IsFirstOrder E h.type (members (its_shapes x))) (sym q.0) (subst (λ T. IsFirstOrder (its_environment x) T (members (its_shapes x))) (sym q.1) x.before.set)

    there : IsAcceptedAs e h.kept h.type
    there = accepted_as request.turns e (is_spelled bytes e s) h.kept h.type h.left h.accepted

    -- the evaluation is lawful, so its value is data
    pub given : IsLawfulEvaluation h.kept h.type h.evaluation
    given = lawful_evaluation e h.kept h.type there h.value n h.evaluation h.types h.first_order

    abbrev pub value_data : Data
    value_data = given.main.answer

    pub value_exact : IsExactly h.kept h.types h.value value_data
    value_exact = value_exactly e h.kept h.type there h.value n h.evaluation given h.types h.first_order

    -- the law at the stages of a run
    law : (x : Compiling request.turns e) → AnswersByLaw h.kept e.main (its_shapes x.before) x.before.program request.pages h.value n value_data
    law x =
        let P = x.before.program in
        let erased : IsErasedTo h.kept e.main P = subst (λ E. IsErasedTo E e.main P) (sym (one_kept h.kept h.type h.left h.accepted x.before).0) (erased_to request.turns e x.before) in
        value_answered e h.kept h.type there h.value n h.evaluation given (its_shapes x.before) P request.pages (types_there x.before) erased (fits_passes x) pos small

    pub value_valid : (x : Compiling request.turns e) → IsValid (its_module request.pages x)
    value_valid x = total_valid x.before.program request.pages (source_branches (its_environment x.before)) pos small (within_source x).within

    pub value_runs : (x : Compiling request.turns e) → EveryRunAnswers x.before.program request.pages (source_words h.kept e.main) (source_branches h.kept) n value_data
    value_runs x = (law x).runs

    -- the evaluation after erasure with environments has counts that the nodes allow
    pub value_counts : (x : Compiling request.turns e) → HasCountsWithin x.before.program value_data n
    value_counts x = evaluations_have_counts x.before.program value_data n x.before.form (law x).kept

    -- so the erased program has that data
    erased_data : (x : Compiling request.turns e) → HasErasedData request.turns e value_data (law x).kept.nodes (law x).kept.matches
    erased_data x = let l = law x in record { stages = x.before; value = l.kept.value; evaluates = l.kept.evaluates; reads = l.kept.reads; fits = l.fits }

    -- the text is the value's
    pub value_text : (text : List ℕ) → ExecEnds request.turns e request.pages request.steps (Ok text) → IsTextOfValue request.turns e n h value_data text
    value_text text (x, line) =
        let l = law x.before in
        let z = x.before.before in
        let same : x.answer.tree ≡ value_data = ends_answer (its_module request.pages x.before) request.pages (1024 * n * (source_words h.kept e.main + source_branches h.kept)) request.steps value_data (Ok x.answer) l.runs.answers x.ends in
        record {
          shapes = its_shapes z;
          set = types_there z;
          named = subst (λ E. AreNamed E (its_shapes z)) (sym (one_kept h.kept h.type h.left h.accepted z).0) z.before.named;
          exactly = l.exactly;
          line = subst (λ d. IsLine (its_shapes z) e.names d text) same line;
        }

    -- no run traps but for want of memory, nor gives another value
    pub no_fault : (r : Refusal) → IsCheckCause request.turns r e ⊎ IsExecCause request.turns request.pages request.steps r e → status_of r ≡ 15 → ⊥
    no_fault r c q =
        let x = compiled (late_of request e r c (omega (arith, q))).late in
        let l = law x in
        no_other request range e value_data l.kept.nodes l.kept.matches (erased_data x) r c q

  -- ---- bounds, where every run of the module that this call makes answers data

  module _ (ds : Data) (most size : ℕ) (runs : (x : Compiling request.turns e) → RunsWithin x.before.program request.pages most size ds) where
    unexhausted : (why : RunEnd) → Late request e why → status_of (refusals.Run why) ≡ 11 → size ≤ 65536 * request.pages → ⊥
    unexhausted ends.Exhausted (of_run x (brief, (kind, t, refused))) q big = not_trapped request.pages request.steps x.before.program most size ds (runs x) kind t big
    unexhausted ends.Exhausted (of_text x y) q big = y
    unexhausted _ l q big = absurd (omega (arith, q))

    unspent : (why : RunEnd) → Late request e why → status_of (refusals.Run why) ≡ 12 → most ≤ request.steps → ⊥
    unspent ends.StepsSpent (of_run x y) q few = (let more = ends_answer (its_module request.pages x) request.pages most request.steps ds (Err running.StepsSpent) (runs x).answers y in omega (arith, more, few))
    unspent ends.StepsSpent (of_text x y) q few = y
    unspent _ l q few = absurd (omega (arith, q))

    enough_memory : (r : Refusal) → IsCheckCause request.turns r e ⊎ IsExecCause request.turns request.pages request.steps r e → status_of r ≡ 11 → size ≤ 65536 * request.pages → ⊥
    enough_memory r c q big = let l = late_of request e r c (omega (arith, q)) in unexhausted l.why l.late (ap status_of (sym l.is) ∙ q) big

    enough_steps : (r : Refusal) → IsCheckCause request.turns r e ⊎ IsExecCause request.turns request.pages request.steps r e → status_of r ≡ 12 → most ≤ request.steps → ⊥
    enough_steps r c q few = let l = late_of request e r c (omega (arith, q)) in unspent l.why l.late (ap status_of (sym l.is) ∙ q) few

  -- so where the erased program evaluates to data, where it gives data with these counts, and where main evaluates to a value

  pub data_memory : (n : ℕ) (h : EvaluatesErased request.turns e n) (r : Refusal) → IsCheckCause request.turns r e ⊎ IsExecCause request.turns request.pages request.steps r e → status_of r ≡ 11 →
      32 * n * greatest_words h.stages.program + 8 ≤ 65536 * request.pages → ⊥
  data_memory n h = enough_memory h.tree (1024 * n * (greatest_words h.stages.program + source_branches (its_environment h.stages))) (32 * n * greatest_words h.stages.program + 8) (λ x. by_nodes (data_runs n h x))

  pub data_steps : (n : ℕ) (h : EvaluatesErased request.turns e n) (r : Refusal) → IsCheckCause request.turns r e ⊎ IsExecCause request.turns request.pages request.steps r e → status_of r ≡ 12 →
      1024 * n * (greatest_words h.stages.program + source_branches (its_environment h.stages)) ≤ request.steps → ⊥
  data_steps n h = enough_steps h.tree (1024 * n * (greatest_words h.stages.program + source_branches (its_environment h.stages))) (32 * n * greatest_words h.stages.program + 8) (λ x. by_nodes (data_runs n h x))

  pub counted_memory : (c : Counts) (h : GivesErased request.turns e c) (r : Refusal) → IsCheckCause request.turns r e ⊎ IsExecCause request.turns request.pages request.steps r e → status_of r ≡ 11 →
      4 * (c.blocks * c.greatest) + 8 ≤ 65536 * request.pages → ⊥
  counted_memory c h =
      enough_memory h.tree (64 * (c.blocks + c.contractions + 1) * (c.greatest + source_branches (its_environment h.stages))) (4 * (c.blocks * c.greatest) + 8) (λ x. by_counts (counted_runs c h x))

  pub counted_steps : (c : Counts) (h : GivesErased request.turns e c) (r : Refusal) → IsCheckCause request.turns r e ⊎ IsExecCause request.turns request.pages request.steps r e → status_of r ≡ 12 →
      64 * (c.blocks + c.contractions + 1) * (c.greatest + source_branches (its_environment h.stages)) ≤ request.steps → ⊥
  counted_steps c h =
      enough_steps h.tree (64 * (c.blocks + c.contractions + 1) * (c.greatest + source_branches (its_environment h.stages))) (4 * (c.blocks * c.greatest) + 8) (λ x. by_counts (counted_runs c h x))

  pub value_memory : (n : ℕ) (h : HasValue request.turns e n) (r : Refusal) → IsCheckCause request.turns r e ⊎ IsExecCause request.turns request.pages request.steps r e → status_of r ≡ 11 →
      32 * n * source_words h.kept e.main + 8 ≤ 65536 * request.pages → ⊥
  value_memory n h = enough_memory (value_data n h) (1024 * n * (source_words h.kept e.main + source_branches h.kept)) (32 * n * source_words h.kept e.main + 8) (λ x. by_nodes (value_runs n h x))

  pub value_steps : (n : ℕ) (h : HasValue request.turns e n) (r : Refusal) → IsCheckCause request.turns r e ⊎ IsExecCause request.turns request.pages request.steps r e → status_of r ≡ 12 →
      1024 * n * (source_words h.kept e.main + source_branches h.kept) ≤ request.steps → ⊥
  value_steps n h = enough_steps (value_data n h) (1024 * n * (source_words h.kept e.main + source_branches h.kept)) (32 * n * source_words h.kept e.main + 8) (λ x. by_nodes (value_runs n h x))

  -- a run that returns has made as many steps as there are matches
  pub late_runs : (matches : ℕ) → HasMatches request.turns e matches → (x : Compiling request.turns e) (first : State) (k : ℕ) (s : Store) → main_start (its_module request.pages x) ≡ Some first →
      Reach (its_module request.pages x) k first (Over Returned s) → matches ≤ k
  late_runs matches h x first k s starts reach =
      let P = x.before.program in
      let same : h.stages.program ≡ P = one_program request.turns e h.stages x.before in
      let evaluates = subst (λ P. BoxEvaluates (saturated_program P) (saturated_program P).main h.value h.nodes matches) same h.evaluates in
      let reads = subst (λ P. BoxReads (saturated_program P) h.value h.tree) same h.reads in
      late_returns P request.pages (source_branches (its_environment x.before)) pos small (omega arith) (within_source x).within h.value h.tree h.nodes matches evaluates reads first k s starts reach

  -- a run that answers
  pub answering_late : (matches : ℕ) → HasMatches request.turns e matches → (x : Answering request.turns e request.pages request.steps) → matches ≤ steps_of x
  answering_late matches h x =
      let back = x.ends.1.returned in
      let run = back.run in
      late_runs matches h x.before run.first run.steps back.store run.starts (moves_are_steps (its_module request.pages x.before) request.pages run.steps run.first (Over Returned back.store) run.moves)

  pub answered_late : (matches : ℕ) → HasMatches request.turns e matches → (text : List ℕ) → ExecEnds request.turns e request.pages request.steps (Ok text) → matches ≤ request.steps
  answered_late matches h text (x, line) =
      let few = x.ends.1.returned.run.few in
      let late : matches ≤ x.ends.1.returned.run.steps = answering_late matches h x in
      omega (arith, late, few)
