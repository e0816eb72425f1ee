use Rattle.pc_rules.specs.DirectedDeclarations.{fits_sort}
use Rattle.pc_rules.specs.Entailment.{test_of}
use Rattle.pc_rules.proofs.Following.{follows_bind, follows_halted, follows_done}
use Rattle.pc_rules.proofs.Leaving.{leaving}
use Rattle.inductive_check.proofs.Leading.{still_bind, still_stops}
use Rattle.inductive_check.proofs.arguments.argument.Goals as goal

pub returns-in_err-sort-clause-follows : goal.returns-in_err-sort-clause-follows
returns-in_err-sort-clause-follows g c = follows_halted _ _ _ _ _ _ c.from_residual.ensures.1 c.in_err-sort.ensures.follows (search leaving depth 8)

pub returns-in_err-fits_sort-clause-follows : goal.returns-in_err-fits_sort-clause-follows
returns-in_err-fits_sort-clause-follows g c =
    let m = c.sort_of.new.m in
    let f = still_stops (fits_sort (test_of c.args.setting.now.env.now) c.args.family.now c.in_ok-sort.sort m.account) c.in_err-fits_sort.field-0.0 m (c.in_err-fits_sort.ensures.answers m.account) (search leaving) in
    follows_bind _ _ _ _ _ _ _ c.in_ok-sort.ensures.follows (follows_halted _ _ _ _ _ _ c.from_residual-in_err-fits_sort.ensures.1 f (search leaving))

pub returns-in_err-positive_at-clause-follows : goal.returns-in_err-positive_at-clause-follows
returns-in_err-positive_at-clause-follows g c =
    let m = c.sort_of.new.m in
    follows_bind _ _ _ _ _ _ _ c.in_ok-sort.ensures.follows
    (still_bind _ _ _ _ m c.positive_at.new.m (c.in_ok-fits_sort.ensures.answers m.account)
    (follows_halted _ _ _ _ _ _ c.from_residual-in_err-positive_at.ensures.1 c.in_err-positive_at.ensures.follows (search leaving)))

pub returns-clause-follows : goal.returns-clause-follows
returns-clause-follows g c =
    let m = c.sort_of.new.m in
    follows_bind _ _ _ _ _ _ _ c.in_ok-sort.ensures.follows
    (still_bind _ _ _ _ m c.positive_at.new.m (c.in_ok-fits_sort.ensures.answers m.account)
    (follows_bind _ _ _ _ _ _ _ c.in_ok-positive_at.ensures.follows (follows_done _ c.positive_at.new.m)))
