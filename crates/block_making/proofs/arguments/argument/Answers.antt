use Rattle.pc_rules.specs.Entailment.{test_of}
use Rattle.pc_rules.specs.DirectedDeclarations.{fits_sort, positive_rule}
use Rattle.script_making.proofs.Making.{makes_on, makes_err, makes_done, makes_passed, makes_answers, makes_metered}
use Rattle.block_making.proofs.arguments.argument.Goals as goal

pub fits_sort-requires-clause-over : goal.fits_sort-requires-clause-over
fits_sort-requires-clause-over g c = c.requires.ready.env.constraints

pub returns-in_err-sort-clause-makes : goal.returns-in_err-sort-clause-makes
returns-in_err-sort-clause-makes g c = makes_passed c.from_residual.ensures.1 (makes_err _ c.in_err-sort.ensures.makes)

pub returns-in_err-fits_sort-clause-makes : goal.returns-in_err-fits_sort-clause-makes
returns-in_err-fits_sort-clause-makes g c =
    let f = fits_sort (test_of c.args.typer.now.maker.env.now) c.args.family.now c.in_ok-sort.sort in
    makes_passed c.from_residual-in_err-fits_sort.ensures.1 (makes_on _ c.in_ok-sort.ensures.makes (makes_err _ (makes_answers f (c.in_err-fits_sort.ensures.answers _))))

pub returns-in_err-positive_at-clause-makes : goal.returns-in_err-positive_at-clause-makes
returns-in_err-positive_at-clause-makes g c =
    let E = c.args.typer.now.maker.env.now in
    let f = fits_sort (test_of E) c.args.family.now c.in_ok-sort.sort in
    let p = positive_rule E c.args.block c.args.at.family c.args.at.ctor c.args.ty.now in
    makes_passed c.from_residual-in_err-positive_at.ensures.1
    (makes_on _ c.in_ok-sort.ensures.makes (makes_on _ (makes_answers f (c.in_ok-fits_sort.ensures.answers _))
    (makes_err _ (makes_metered p _ c.sort_of.new.draft c.positive_at.new.m c.in_err-positive_at.ensures.follows))))

pub returns-clause-makes : goal.returns-clause-makes
returns-clause-makes g c =
    let E = c.args.typer.now.maker.env.now in
    let f = fits_sort (test_of E) c.args.family.now c.in_ok-sort.sort in
    let p = positive_rule E c.args.block c.args.at.family c.args.at.ctor c.args.ty.now in
    makes_on _ c.in_ok-sort.ensures.makes (makes_on _ (makes_answers f (c.in_ok-fits_sort.ensures.answers _))
    (makes_on _ (makes_metered p _ c.sort_of.new.draft c.positive_at.new.m c.in_ok-positive_at.ensures.follows) (makes_done _ _)))
