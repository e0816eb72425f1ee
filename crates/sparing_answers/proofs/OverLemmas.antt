-- The data of an evaluation over lemmas, and every run of the module.
use Rattle.std.proofs.Common.{arith}
use Rattle.calculus_rules.proofs.Bare.{bare_types}
use Rattle.pc_rules.specs.Entailment.{test_of}
use Rattle.pc_rules.proofs.Entailing.{entailed_decides}
use Rattle.lambda_box.proofs.Determined.{one_box_each}
use Rattle.typing_laws.proofs.DataAlong.{reading_is_determined}
use Rattle.erase_laws.proofs.AcceptedReady.{accepted_ready}
use Rattle.erase_laws.proofs.ErasedData.{reads_erased, reading_fits}
use Rattle.erase_laws.proofs.ErasedSpines.{value_settled}
use Rattle.erase_laws.proofs.Reached.{erased_programs_have_form}
use Rattle.erase_laws.proofs.Serves.{serves}
use Rattle.erase_rules.proofs.Program.{program_is_erased}
use Rattle.read_counts.proofs.KeptBlocks.{few_counts}
use Rattle.first_order.specs.Searching.{members}
use Rattle.headline.specs.SourceWords.{source_words, source_branches}
use Rattle.headline.proofs.Derived.{derived}
use Rattle.headline.proofs.EachRun.{each_run}
use Rattle.headline.proofs.SourceSizes.{of_source}
use Rattle.headline.proofs.Writing.{fitting_is_written}
use Rattle.sparing_laws.proofs.LemmaValues.{values_over_lemmas_are_data}
use Rattle.sparing_answers.specs.LemmaLaws.{LemmasAreFollowed, ValuesOverLemmasAreAnswered}
use Rattle.sparing_answers.proofs.Following.{Together}
use Rattle.sparing_answers.proofs.LemmasFollowed.{lemmas_followed}

pub lemmas_are_followed : LemmasAreFollowed
lemmas_are_followed E accepted P form H t v T n typed e p S first =
    let R = accepted_ready E accepted in
    let s = serves H form.constants in
    let K : Together E P = record { accepted = accepted; ready = R; one_each = one_box_each P form; serves = s } in
    let (d, reading, solid) = values_over_lemmas_are_data E accepted t v T n S e typed first in
    let r = lemmas_followed K e typed P.main p form.main.named in (
      d,
      reading,
      reading_fits reading,
      record {
        value = r.result;
        nodes = r.nodes;
        matches = r.matches;
        few = r.fewer;
        evaluates = r.runs;
        reads = reads_erased R s first.members reading solid r.erased (value_settled r.runs);
      },
    )

pub values_over_lemmas_are_answered : ValuesOverLemmasAreAnswered
values_over_lemmas_are_answered e E T accepted types P pages first erased fits pos small v n x =
    let d = derived e E T accepted in
    let a = d.formed.accepted in
    let test = entailed_decides E.levels E.constraints a.consistent a.over in
    let typed = bare_types d.formed.typed in
    let is = program_is_erased E a (few_counts e accepted.spelled E T d) (test_of E) test erased.room e.main T d.formed.typed P erased.before erased.after erased.gives in
    let (form, has) = erased_programs_have_form E a e.main T typed P is in
    let (tree, reading, fit, kept) = lemmas_are_followed E a P form has e.main v T n typed x is.main (members types) first in
    let within = of_source e E T P accepted erased fits in (
      tree,
      record {
        exactly = record { reads = reading; only = λ other s. reading_is_determined E a (members types) 0 v other tree s reading };
        kept = kept;
        runs = each_run P pages (source_words E e.main) (source_branches E) n tree pos small (omega arith) within.words within.within kept;
        fits = fit;
        text = λ names named. fitting_is_written types names named tree fit;
      },
    )
