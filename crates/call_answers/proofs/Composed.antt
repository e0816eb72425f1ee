-- The headline for calls, from the laws of the layers.
use Rattle.std.proofs.Common.{◌<◌, ◌≤◌, ℕ, List, length, map, arith}
use Rattle.pc_terms.specs.Syntax.{Term}
use Rattle.calculus_rules.specs.Environment.{Env}
use Rattle.calculus_rules.specs.Evaluation.{Evaluates}
use Rattle.calculus_rules.specs.FirstOrder.{Data}
use Rattle.calculus_rules.proofs.Bare.{bare_types}
use Rattle.pc_rules.specs.Entailment.{test_of}
use Rattle.pc_rules.proofs.Entailing.{entailed_decides}
use Rattle.dump_reader.specs.declared.environment.RawEnv.{RawEnv}
use Rattle.first_order.specs.declared.shapes.Shape.{Shape}
use Rattle.first_order.specs.Applied.{IsApplied}
use Rattle.first_order.specs.Searching.{members}
use Rattle.first_order.specs.Signature.{IsSignature}
use Rattle.lambda_box.specs.BoxProgram.{BoxProgram}
use Rattle.typing_laws.proofs.DataAlong.{reading_is_determined}
use Rattle.erase_rules.proofs.Program.{program_is_erased}
use Rattle.read_counts.proofs.KeptBlocks.{few_counts}
use Rattle.applied_terms.proofs.KeptValues.{applied_values_are_kept}
use Rattle.applied_terms.proofs.SourceTerms.{applied_terms_are_there}
use Rattle.applied_terms.proofs.TypedTerms.{applied_terms_are_typed}
use Rattle.headline.proofs.Derived.{derived}
use Rattle.headline.proofs.SourceSizes.{of_source}
use Rattle.headline.proofs.Writing.{fitting_is_written}
use Rattle.headline.specs.AcceptedProgram.{IsAcceptedAs, IsErasedTo, FitsPasses}
use Rattle.headline.specs.SourceWords.{source_branches, source_words}
use Rattle.call_answers.specs.CallHeadline.{AnswersCall, CallHeadline}
use Rattle.call_answers.proofs.CalledPrograms.{called_programs_answer, call_modules_are_valid, with_words}

module _ (e : RawEnv) (E : Env) (T : Term) (accepted : IsAcceptedAs e E T) where
  -- what an applied term evaluates to is answered
  call_answered : (takes : List (List Shape)) (answer : List Shape) (P : BoxProgram) (pages : ℕ) → IsSignature E T (map members takes) (members answer) → IsErasedTo E e.main P → FitsPasses P → 0 < pages → pages ≤ 16384 →
      (arguments : List Data) (t : Term) → IsApplied (map members takes) e.main arguments t → (v : Term) (n : ℕ) → Evaluates E t v n → (tree : Data) × AnswersCall E e.main answer P arguments pages v n tree
  call_answered takes answer P pages signature erased fits pos small arguments t is v n x =
      let d = derived e E T accepted in
      let a = d.formed.accepted in
      let i = of_source e E T P accepted erased fits in
      let counts = few_counts e accepted.spelled E T d in
      let test = entailed_decides E.levels E.constraints a.consistent a.over in
      let program = program_is_erased E a counts (test_of E) test erased.room e.main T d.formed.typed P erased.before erased.after erased.gives in
      let k = applied_values_are_kept E a e.main T (bare_types d.formed.typed) P program (map members takes) (members answer) signature arguments t is v n x in (
        k.0,
        record {
          exactly = record { reads = k.1; only = λ other s. reading_is_determined E a (members answer) 0 v other k.0 s k.1 };
          kept = k.2;
          runs = with_words (source_words E e.main) i.words (called_programs_answer P arguments pages (source_branches E) n k.0 pos small (omega arith) i.within k.2);
          fits = k.3;
          text = λ names named. fitting_is_written answer names named k.0 k.3;
        },
      )

pub call_headline : CallHeadline
call_headline e E T accepted = (
  derived e E T accepted,
  λ takes answer P pages signature erased fits pos small.
      let d = derived e E T accepted in (
        call_modules_are_valid P (length takes) pages (source_branches E) pos small (of_source e E T P accepted erased fits).within,
        λ arguments f. applied_terms_are_there (map members takes) e.main arguments f,
        λ arguments t is. (
          applied_terms_are_typed E d.formed.accepted e.main T (bare_types d.formed.typed) (map members takes) (members answer) signature arguments t is,
          λ v n x. call_answered e E T accepted takes answer P pages signature erased fits pos small arguments t is v n x,
        ),
      ),
)
