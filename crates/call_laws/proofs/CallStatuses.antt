-- What a call of `call` ends with: the arguments of each of its stages are those that are spelled; and where the erased main, applied to them, evaluates to data of the answer's types, the answer is that data and
-- nothing shows the status 15.
use Rattle.std.proofs.Common.{◌≡◌, ◌∙◌, ℕ, ◌<◌, ◌≤◌, List, length, drop, Result, Ok, Err, sym, ap, subst, arith}
use Rattle.std.proofs.lemmas.List.{length-map}
use Rattle.calculus_rules.specs.FirstOrder.{Data, FitsShapes}
use Rattle.calculus_rules.specs.Environment.{Env}
use Rattle.dump_grammar.specs.Judge.{texts}
use Rattle.dump_reader.specs.Front.{front_bytes, front_length}
use Rattle.dump_reader.specs.declared.environment.RawEnv.{RawEnv}
use Rattle.data_trees.specs.Preorder.{IsTree}
use Rattle.erase_laws.proofs.AcceptedReady.{accepted_ready}
use Rattle.first_order.specs.Awaited.{ArgumentsAre, argument_sets, arguments_from, joined, reading_behind}
use Rattle.first_order.specs.DirectedSignature.{AreAllNamed}
use Rattle.first_order.specs.declared.shapes.Shapes.{Shapes}
use Rattle.first_order.proofs.ArgumentComplete.{arguments-read, arguments_trees}
use Rattle.wasm_core.specs.ModuleCondition.{All as Each}
use Rattle.wasm_core.specs.ModuleTyping.{IsValid}
use Rattle.module_run.specs.declared.answer.Answer.{Answer as Answered}
use Rattle.module_run.specs.declared.refusal.RunRefusal.{RunRefusal}
use Rattle.module_run.specs.declared.refusal.RunRefusal.TheVariants as running
use Rattle.module_run.specs.CallEnds.{CallEnds}
use Rattle.module_run.specs.EndLaws.{AnswersOrSpends}
use Rattle.back_end.specs.BackEnd.{passed}
use Rattle.compile.proofs.Within.{fits_within}
use Rattle.headline.specs.AcceptedProgram.{FitsPasses, IsWithinSource}
use Rattle.headline.specs.SourceWords.{source_branches, source_words}
use Rattle.headline.proofs.SourceSizes.{of_source}
use Rattle.applied_terms.specs.CallEvaluation.{CallEvaluatesTo}
use Rattle.call_answers.specs.EveryCall.{EveryCallAnswers, call_module_for}
use Rattle.call_answers.proofs.CalledPrograms.{call_modules_are_valid, called_programs_answer, with_words}
use Rattle.command_line.specs.declared.line.Request.{Request}
use Rattle.command_line.specs.Line.{IsInRange}
use Rattle.driver.specs.CallStages.{CallCompiling, CallErasing, Signing, argument_count, its_call_module}
use Rattle.driver.specs.CallEnds.{CallAnswering, ReadingArguments, arguments_read}
use Rattle.driver.specs.Texts.{SpellsWithin}
use Rattle.driver.proofs.AcceptedAs.{accepted_as, call_erased_to}
use Rattle.driver.proofs.CallLate.{LateEnd, of_answer, of_run}
use Rattle.driver.proofs.CallCauses.{one_answer_set, one_argument_count, one_argument_sets}
use Rattle.driver.proofs.ExecCauses.{one_acceptance}
use Rattle.driver.proofs.OneNames.{sets_alike}
use Rattle.driver.proofs.SmallArguments.{each_tree}
use Rattle.driver.proofs.StoredAlike.{ends_alike}
use Rattle.driver.proofs.TextCauses.{is_spelled}
use Rattle.call_laws.specs.CallValues.{HasArguments, answer_types, kept_environment, tokens_behind}
use Rattle.call_laws.proofs.SmallTerms.{terms_small}
use Rattle.call_laws.proofs.StoredRuns.{call_ends_answer, most}
use Rattle.first_order.proofs.ArgumentSpelling.{are_is}

module _ (q : Request) (range : IsInRange q) (bytes : List ℕ) (e : RawEnv) (s : SpellsWithin (front_bytes bytes) e) (h : HasArguments q.turns e bytes) where
  pos : 0 < q.pages
  pos = omega (arith, range.pages.0)

  small : q.pages ≤ 16384
  small = omega (arith, range.pages.1)

  -- ---- the arguments of any stage are those that are spelled

  pub one_environment_kept : (x : Signing q.turns e) → x.before.kept ≡ kept_environment h
  one_environment_kept x = (one_acceptance q.turns e x.before h.signing.before).0

  same_sets : (x : Signing q.turns e) → argument_sets x.signature.args ≡ argument_sets h.signing.signature.args
  same_sets x =
      let E = kept_environment h in
      let named = subst (λ (E : Env). AreAllNamed E x.signature.args) (one_environment_kept x) x.named.0 in
      sets_alike E (accepted_ready E h.signing.before.checked.formed.accepted).one_each x.signature.args h.signing.signature.args named h.signing.named.0 (one_argument_sets q.turns e x h.signing)

  pub they_are_read : (x : Signing q.turns e) → arguments_read bytes x.signature e.names ≡ ArgumentsAre (joined h.arguments)
  they_are_read x =
      ap (λ Ss. arguments_from e.names Ss bytes (front_length bytes)) (same_sets x)
      ∙ ap (reading_behind (front_length bytes)) (arguments-read e.names (argument_sets h.signing.signature.args) (length (drop (front_length bytes) bytes)) (tokens_behind bytes) h.arguments h.spelled h.whole)

  same_nodes : (y : ReadingArguments q.turns e bytes) → joined y.arguments ≡ joined h.arguments
  same_nodes y = are_is (joined y.arguments) (joined h.arguments) (sym y.read.0 ∙ they_are_read y.before)

  -- and they can be stored for a call
  own_count : length h.arguments ≡ argument_count h.signing
  own_count = (arguments_trees e.names (argument_sets h.signing.signature.args) (texts (tokens_behind bytes)) h.arguments h.spelled).1 ∙ length-map h.signing.signature.args (λ (t : Shapes). t.types)

  pub reading_of_them : ReadingArguments q.turns e bytes
  reading_of_them = record { before = h.signing; arguments = h.arguments; read = (they_are_read h.signing, own_count) }

  pub ends_on_them : (x : CallCompiling q.turns e) (y : ReadingArguments q.turns e bytes) (r : Result Answered RunRefusal) → CallEnds (its_call_module q.pages x) q.pages q.steps y.arguments r →
      CallEnds (its_call_module q.pages x) q.pages q.steps h.arguments r
  ends_on_them x y r k = ends_alike (its_call_module q.pages x) q.pages q.steps y.arguments h.arguments (same_nodes y) r k

  are_trees : Each IsTree h.arguments
  are_trees = each_tree h.arguments (arguments_trees e.names (argument_sets h.signing.signature.args) (texts (tokens_behind bytes)) h.arguments h.spelled).0

  count_is : (x : CallCompiling q.turns e) → length h.arguments ≡ argument_count x.before.before
  count_is x = own_count ∙ one_argument_count q.turns e h.signing x.before.before

  -- ---- the modules

  sizes : (x : CallCompiling q.turns e) → IsWithinSource (kept_environment h) e.main x.before.program
  sizes x =
      let a = x.before.before.before in
      let w = fits_within x.before.program 1024 x.before.form x.fits (λ F has. (x.before.form.counts F has).constructors) in
      let fits_passes : FitsPasses x.before.program = record { constants = w.constants; main = w.main; limits = w.limits } in
      subst (λ E. IsWithinSource E e.main x.before.program) (one_environment_kept x.before.before)
      (of_source e a.kept a.type x.before.program (accepted_as q.turns e (is_spelled (front_bytes bytes) e s) a.kept a.type a.left a.accepted) (call_erased_to q.turns e x.before) fits_passes)

  pub module_valid : (x : CallCompiling q.turns e) → IsValid (its_call_module q.pages x)
  module_valid x = call_modules_are_valid x.before.program (argument_count x.before.before) q.pages (source_branches (kept_environment h)) pos small (sizes x).within

  -- ---- where the erased main, applied to the arguments, evaluates to data

  module _ (n : ℕ) (tree : Data) (data_of : (x : CallErasing q.turns e) → CallEvaluatesTo x.program h.arguments tree n) (fits : FitsShapes (answer_types h) 0 tree) where
    pub call_runs : (x : CallCompiling q.turns e) → EveryCallAnswers (its_call_module q.pages x) h.arguments q.pages (source_words (kept_environment h) e.main) (source_branches (kept_environment h)) n tree
    call_runs x =
        let W = source_words (kept_environment h) e.main in
        let M = source_branches (kept_environment h) in
        subst (λ k. EveryCallAnswers (call_module_for x.before.program k q.pages) h.arguments q.pages W M n tree) (count_is x)
        (with_words W (sizes x).words (called_programs_answer x.before.program h.arguments q.pages M n tree pos small (omega arith) (sizes x).within (data_of x.before)))

    run_answers : (x : CallCompiling q.turns e) (y : ReadingArguments q.turns e bytes) (r : Result Answered RunRefusal) → CallEnds (its_call_module q.pages x) q.pages q.steps y.arguments r →
        (bound : ℕ) × AnswersOrSpends bound q.steps tree r
    run_answers x y r k =
        let P = passed x.before.program in
        let count = argument_count x.before.before in
        let w = source_words (kept_environment h) e.main in
        let b = source_branches (kept_environment h) in
        let are_small = terms_small x.before.program x.before.form (data_of x.before).terms h.arguments (data_of x.before).are in
        (most P count q.pages h.arguments are_small are_trees w b n tree (call_runs x) q.steps, call_ends_answer P count q.pages h.arguments are_small are_trees w b n tree (call_runs x) q.steps r (ends_on_them x y r k))

    pub answer_is : (x : CallAnswering q.turns e bytes q.pages q.steps) → x.answer.tree ≡ tree
    answer_is x = (run_answers x.before x.reading (Ok x.answer) x.ends).1

    -- so nothing shows the status 15
    pub never_fifteen : LateEnd q.turns e bytes q.pages q.steps 15 → ⊥
    never_fifteen (of_run y x (running.Trapped kind) k other is) = (run_answers x y (Err (running.Trapped kind)) k).1
    never_fifteen (of_run y x (running.NoValue word) k other is) = (run_answers x y (Err (running.NoValue word)) k).1
    never_fifteen (of_run y x _ k other is) = omega (arith, is)
    never_fifteen (of_answer x none is) =
        none (subst (λ S. FitsShapes S 0 x.answer.tree) (sym (one_answer_set q.turns e x.before.before.before h.signing)) (subst (FitsShapes (answer_types h) 0) (sym (answer_is x)) fits))
