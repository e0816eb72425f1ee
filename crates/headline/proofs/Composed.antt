-- The headline, from the laws of the layers.
use Rattle.std.proofs.Common.{◌≡◌, ◌<◌, ◌≤◌, ℕ, List, subst, arith}
use Rattle.pc_terms.specs.Syntax.{Term}
use Rattle.calculus_rules.specs.Accepted.{IsAccepted}
use Rattle.calculus_rules.specs.Environment.{Env}
use Rattle.calculus_rules.specs.Evaluation.{Evaluates}
use Rattle.pc_rules.specs.Entailment.{test_of}
use Rattle.calculus_rules.specs.FirstOrder.{Shape as Member, IsFirstOrder, FitsShapes}
use Rattle.calculus_rules.specs.Lawful.{IsLawfulEvaluation}
use Rattle.calculus_rules.proofs.Bare.{bare_types}
use Rattle.pc_rules.proofs.Entailing.{entailed_decides}
use Rattle.dump_reader.specs.declared.environment.RawEnv.{RawEnv}
use Rattle.first_order.specs.declared.shapes.Shape.{Shape}
use Rattle.first_order.specs.Searching.{members}
use Rattle.lambda_box.specs.BoxProgram.{BoxProgram}
use Rattle.lambda_box.specs.BoxData.{BoxReads}
use Rattle.typing_laws.proofs.DataAlong.{data_is_along_each, reading_is_determined}
use Rattle.erase_rules.proofs.Together.{program_keeps_values}
use Rattle.read_counts.proofs.KeptBlocks.{few_counts}
use Rattle.back_end.proofs.Total.{total_valid}
use Rattle.type_laws.proofs.Lawful.{whole_evaluations_are_lawful}
use Rattle.headline.proofs.Derived.{derived}
use Rattle.headline.proofs.EachRun.{each_run}
use Rattle.headline.proofs.SourceSizes.{of_source}
use Rattle.headline.proofs.Writing.{fitting_is_written}
use Rattle.headline.specs.AcceptedProgram.{IsAcceptedAs, IsErasedTo, FitsPasses}
use Rattle.headline.specs.EveryRun.{EvaluatesTo}
use Rattle.headline.specs.SourceWords.{source_words, source_branches}
use Rattle.headline.specs.Headline.{IsExactly, AnswersValue, Headline}

module _ (e : RawEnv) (E : Env) (T : Term) (accepted : IsAcceptedAs e E T) where
  well_formed : IsAccepted E
  well_formed = (derived e E T accepted).formed.accepted

  module _ (v : Term) (n : ℕ) (x : Evaluates E e.main v n) where
    -- main's evaluation is lawful
    pub lawful_evaluation : (S : List Member) → IsFirstOrder E T S → IsLawfulEvaluation E T x
    lawful_evaluation S first = whole_evaluations_are_lawful E well_formed e.main v T n x S (bare_types (derived e E T accepted).formed.typed) first

    -- so its value is data, the same along each first-order set of main's type
    pub value_exactly : (h : IsLawfulEvaluation E T x) (S : List Member) → IsFirstOrder E T S → IsExactly E S v h.main.answer
    value_exactly h S first =
        let r = (data_is_along_each E well_formed T h.shapes S h.first_order first v h.main.answer h.main.reading h.main.solid).0 in
        record { reads = r; only = λ other s. reading_is_determined E well_formed S 0 v other h.main.answer s r }

    -- which every run of the module answers
    pub value_answered : (h : IsLawfulEvaluation E T x) (types : List Shape) (P : BoxProgram) (pages : ℕ) → IsFirstOrder E T (members types) → IsErasedTo E e.main P → FitsPasses P → 0 < pages → pages ≤ 16384 →
        AnswersValue E e.main types P pages v n h.main.answer
    value_answered h types P pages first erased fits pos small =
        let d = derived e E T accepted in
        let a = well_formed in
        let i = of_source e E T P accepted erased fits in
        let counts = few_counts e accepted.spelled E T d in
        let test = entailed_decides E.levels E.constraints a.consistent a.over in
        let k = program_keeps_values E a counts (test_of E) test erased.room e.main T d.formed.typed P erased.before erased.after erased.gives v n x (members types) first in
        let exactly = value_exactly h (members types) first in
        let same : k.0 ≡ h.main.answer = exactly.only k.0 k.6 in
        let kept : EvaluatesTo P h.main.answer n = record { value = k.1; nodes = k.2; matches = k.3; few = k.4; evaluates = k.5; reads = subst (BoxReads P k.1) same k.7 } in
        let data_fits : FitsShapes (members types) 0 h.main.answer = subst (FitsShapes (members types) 0) same k.8 in
        record {
          exactly = exactly;
          kept = kept;
          runs = each_run P pages (source_words E e.main) (source_branches E) n h.main.answer pos small (omega arith) i.words i.within kept;
          fits = data_fits;
          text = λ names named. fitting_is_written types names named h.main.answer data_fits;
        }

pub headline : Headline
headline e E T accepted = (
  derived e E T accepted,
  λ types P pages first erased fits pos small. (
    total_valid P pages (source_branches E) pos small (of_source e E T P accepted erased fits).within,
    λ v n x.
        let h = lawful_evaluation e E T accepted v n x (members types) first in
        (h.main.answer, value_answered e E T accepted v n x h types P pages first erased fits pos small),
  ),
)
