use Rattle.pc_rules.specs.Entailment.{test_of}
use Rattle.pc_rules.specs.DirectedDeclarations.{fits_sort}
use Rattle.type_cert.proofs.Retracing.{retraces_on, retraces_err, retraces_pass, retraces_passed, retraces_answers}
use Rattle.block_cert.proofs.arguments.argument.Goals as goal

pub fits_sort-requires-clause-over : goal.fits_sort-requires-clause-over
fits_sort-requires-clause-over g c = c.requires.ready.env.constraints

pub returns-in_err-sort-clause-retraces : goal.returns-in_err-sort-clause-retraces
returns-in_err-sort-clause-retraces g c = retraces_passed c.from_residual.ensures.1 (retraces_err _ c.in_err-sort.ensures.retraces)

pub returns-in_err-at_item-clause-retraces : goal.returns-in_err-at_item-clause-retraces
returns-in_err-at_item-clause-retraces g c =
    let f = fits_sort (test_of c.args.walk.now.verifier.env.now) c.args.family.now c.in_ok-sort.sort in
    retraces_passed c.from_residual-in_err-at_item.ensures.1
    (retraces_on _ c.in_ok-sort.ensures.retraces (retraces_err _ (retraces_answers f _ c.in_err-at_item.ensures.is (c.fits_sort.ensures.answers _))))

pub returns-clause-retraces : goal.returns-clause-retraces
returns-clause-retraces g c =
    let f = fits_sort (test_of c.args.walk.now.verifier.env.now) c.args.family.now c.in_ok-sort.sort in
    retraces_on _ c.in_ok-sort.ensures.retraces (retraces_on _ (retraces_answers f _ c.in_ok-at_item.ensures.is (c.fits_sort.ensures.answers _)) (retraces_pass _ _))
