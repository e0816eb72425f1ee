-- The stages of a call of `export` that ends with status 0 show main's module for calls: the headline for calls holds of it.
use Rattle.std.proofs.Common.{ℕ, suc, ◌≡◌, ◌∙◌, ◌<◌, ◌≤◌, List, length, Option, Some, refl, sym, ap, subst, arith}
use Rattle.std.proofs.lemmas.List.{length-map}
use Rattle.std.specs.Io.KnownBytes.{Appends}
use Rattle.pc_terms.specs.Syntax.{Term}
use Rattle.calculus_rules.specs.FirstOrder.{Shape, Data}
use Rattle.calculus_rules.proofs.Bare.{bare_types}
use Rattle.calculus_rules.proofs.Spines.{one_item}
use Rattle.dump_reader.specs.declared.environment.RawEnv.{RawEnv}
use Rattle.first_order.specs.Applied.{AreArguments}
use Rattle.first_order.specs.DirectedSignature.{set_of, sets_of}
use Rattle.typing_laws.proofs.DataAlong.{reading_is_determined}
use Rattle.compile.proofs.Within.{fits_within}
use Rattle.headline.specs.AcceptedProgram.{FitsPasses, IsWithinSource}
use Rattle.headline.specs.SourceWords.{source_branches, source_words}
use Rattle.headline.proofs.SourceSizes.{of_source}
use Rattle.wasm_core.specs.ModuleTyping.{IsValid}
use Rattle.wasm_core.specs.ModuleGrammar.{SpellsModule}
use Rattle.command_line.specs.declared.job.Job.{Job}
use Rattle.command_line.specs.declared.job.Job.TheVariants.{Export}
use Rattle.command_line.specs.declared.line.Request.{Request}
use Rattle.command_line.specs.Line.{IsInRange, request_of}
use Rattle.command_line.proofs.Ranges.{requests_lie_in_range}
use Rattle.driver.specs.CallStages.{CallCompiling, its_call_module}
use Rattle.driver.specs.Exported.{IsExported}
use Rattle.driver.specs.Serve.{HasAnswer, IsInput, IsInputOf, IsAnswerOf}
use Rattle.driver.specs.Texts.{SpellsWithin}
use Rattle.driver.proofs.AcceptedAs.{accepted_as, call_erased_to}
use Rattle.driver.proofs.TextCauses.{is_spelled}
use Rattle.answer_laws.proofs.Derived.{derived}
use Rattle.applied_terms.proofs.KeptValues.{applied_values_are_kept}
use Rattle.applied_terms.proofs.SourceTerms.{applied_terms_are_there}
use Rattle.applied_terms.proofs.TypedTerms.{applied_terms_are_typed}
use Rattle.call_answers.specs.EveryCall.{call_module_for, EveryCallAnswers}
use Rattle.call_answers.proofs.CalledPrograms.{called_programs_answer, with_words}
use Rattle.export_laws.specs.ModuleForCalls.{IsModuleForCalls}
use Rattle.export_laws.specs.Laws.{HasExported, ExportMeans}

arguments_count : {Ss : List (List Shape)} {ds : List Data} {xs : List Term} → AreArguments Ss ds xs → length ds ≡ length Ss
arguments_count AreArguments.no_argument = refl
arguments_count (AreArguments.an_argument o os) = ap suc (arguments_count os)

-- main's module for calls, by the stages that lead to it
module_for_calls : (q : Request) → IsInRange q → (bytes : List ℕ) (e : RawEnv) → SpellsWithin bytes e → (x : CallCompiling q.turns e) → IsValid (its_call_module q.pages x) →
    IsModuleForCalls q.pages x.before.before.before.kept e.main x.before.before.before.type (sets_of x.before.before.signature.args) (set_of x.before.before.signature.answer) (its_call_module q.pages x)
module_for_calls q range bytes e s x valid =
    let g = x.before.before in
    let a = g.before in
    let E = a.kept in
    let accepted = a.checked.formed.accepted in
    let typed = bare_types a.checked.formed.typed in
    let takes = sets_of g.signature.args in
    let answer = set_of g.signature.answer in
    record {
      signature = g.is;
      valid = valid;
      applied = λ arguments f. applied_terms_are_there takes e.main arguments f;
      typed = λ arguments t is. applied_terms_are_typed E accepted e.main a.type typed takes answer g.is arguments t is;
      answers = λ arguments t is v n evaluation.
          let k = applied_values_are_kept E accepted e.main a.type typed x.before.program x.before.is takes answer g.is arguments t is v n evaluation in
          let runs = with_words (source_words E e.main) within.words (called_programs_answer x.before.program arguments q.pages (source_branches E) n k.0 pos small (omega arith) within.within k.2) in
          let count : length arguments ≡ length g.signature.args = arguments_count is.sources ∙ length-map g.signature.args set_of in (
            k.0,
            record { reads = k.1; only = λ other r. reading_is_determined E accepted answer 0 v other k.0 r k.1 },
            subst (λ j. EveryCallAnswers (call_module_for x.before.program j q.pages) arguments q.pages (source_words E e.main) (source_branches E) n k.0) count runs,
          );
    }
  where
    pos : 0 < q.pages
    pos = omega (arith, range.pages.0)

    small : q.pages ≤ 16384
    small = omega (arith, range.pages.1)

    fits_passes : FitsPasses x.before.program
    fits_passes =
        let w = fits_within x.before.program 1024 x.before.form x.fits (λ F has. (x.before.form.counts F has).constructors) in
        record { constants = w.constants; main = w.main; limits = w.limits }

    within : IsWithinSource x.before.before.before.kept e.main x.before.program
    within =
        let a = x.before.before.before in
        of_source e a.kept a.type x.before.program (accepted_as q.turns e (is_spelled bytes e s) a.kept a.type a.left a.accepted) (call_erased_to q.turns e x.before) fits_passes

-- the request and the job of an answer are those that were asked for
record AnswerOf (job : Job) (q : Request) (left : Option (List ℕ)) (text : List ℕ) : Type 0 where
  bytes : List ℕ
  input : IsInputOf job q left bytes
  answer : IsAnswerOf job q bytes text

answer_of : (words : List (List ℕ)) (left : Option (List ℕ)) (text : List ℕ) (q : Request) (job : Job) → request_of words ≡ Some q → q.job ≡ job → HasAnswer words left text → AnswerOf job q left text
answer_of words left text q job e is a =
    subst (λ job. AnswerOf job q left text) is
    (subst (λ q. AnswerOf q.job q left text) (one_item (sym a.asked ∙ e)) (record { bytes = a.bytes; input = a.input; answer = a.answer }))

exported : (words : List (List ℕ)) (q : Request) → request_of words ≡ Some q → (left taken taken' : Option (List ℕ)) (bytes text : List ℕ) → IsInput left bytes →
    IsExported q.turns q.pages bytes text → Appends taken taken' text → HasExported q left taken taken'
exported words q e left taken taken' bytes text input m w =
    let g = m.stages.before.before in
    let a = g.before in
    record {
      of = record { bytes = bytes; input = input; environment = m.environment; spelled = m.spelled; kept = a.kept; type = a.type; derived = derived m.environment a.kept a.type a.checked };
      takes = sets_of g.signature.args;
      answer = set_of g.signature.answer;
      parts = its_call_module q.pages m.stages;
      means = module_for_calls q (requests_lie_in_range words q e) bytes m.environment m.spelled m.stages m.valid;
      spells = subst (λ text. SpellsModule text (its_call_module q.pages m.stages)) m.text_is m.module_is;
      written = subst (Appends taken taken') m.text_is w;
    }

pub export_means : {S K E : Type 0} → ExportMeans S K E
export_means words reports src src' out out' err err' s q e job =
    let (text, answer, w) = s.done refl in
    let a = answer_of words src.told text q Export e job answer in
    exported words q e src.told out.told out'.told a.bytes text a.input a.answer w
