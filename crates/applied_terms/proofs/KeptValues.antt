-- Where main, applied to the source terms of data, evaluates, the erased main does so on the same data.
use Rattle.std.proofs.Common.{refl, sym}
use Rattle.typing_laws.proofs.DataAlong.{data_along}
use Rattle.typing_laws.proofs.Traversal.{types_at}
use Rattle.type_laws.proofs.Lawful.{whole_evaluations_are_lawful}
use Rattle.lambda_box.proofs.Families.{unique_family}
use Rattle.lambda_box.proofs.Naming.{named_apply}
use Rattle.erase_laws.proofs.AcceptedReady.{accepted_ready}
use Rattle.erase_laws.proofs.ErasedData.{reads_erased, reading_fits}
use Rattle.erase_laws.proofs.ErasedRedexes.{erases_from}
use Rattle.erase_laws.proofs.ErasedSpines.{apply_erases}
use Rattle.erase_laws.proofs.Reached.{erased_programs_have_form}
use Rattle.erase_laws.proofs.Serves.{serves}
use Rattle.applied_terms.specs.Laws.{AppliedValuesAreKept}
use Rattle.applied_terms.proofs.ErasedArguments.{arguments_erased}
use Rattle.applied_terms.proofs.Following.{follows}
use Rattle.applied_terms.proofs.Pared.{pared_same, pared_apply}
use Rattle.applied_terms.proofs.ParedSpines.{pared_reads}
use Rattle.applied_terms.proofs.TypedTerms.{applied_typed}

pub applied_values_are_kept : AppliedValuesAreKept
applied_values_are_kept E h main T typed P erased Ss R signature ds t a v n e =
    let (form, has) = erased_programs_have_form E h main T typed P erased in
    let unique = unique_family P form in
    let H = serves has form.constants in
    let ready = accepted_ready E h in
    let z = applied_typed E h signature a.sources main typed in
    let whole = types_at (sym a.is) refl z.typed in
    let lawful = whole_evaluations_are_lawful E h t v z.type n e R whole z.first in
    let args = arguments_erased E h P H a.sources z.arguments in
    let k = follows ready H unique e lawful.main.nodes whole (erases_from (sym a.is) (apply_erases erased.main args.erased)) (pared_apply args.pared (pared_same P.main))
    (named_apply P args.after P.main form.main.named args.named) in
    let (reading, solid) = data_along ready.one_each lawful.first_order z.first lawful.main.reading lawful.main.solid in
    let before = reads_erased ready H z.first.members reading solid k.erased k.settles in (
      lawful.main.answer,
      reading,
      record { terms = args.after; are = args.are; value = k.result; nodes = k.nodes; matches = k.matches; few = k.fewer; evaluates = k.runs; reads = pared_reads unique before k.pared },
      reading_fits reading,
    )
