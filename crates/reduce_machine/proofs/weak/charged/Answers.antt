use Rattle.std.proofs.lemmas.Result.{err_from_is_err_and}
use Rattle.reduce_machine.proofs.weak.charged.Goals as goal

pub returns-in_err-take_units-clause-none : goal.returns-in_err-take_units-clause-none
returns-in_err-take_units-clause-none c =
    let p = err_from_is_err_and c.from_residual.result c.from_residual.ensures.1 in
    rw (p.1, p.2) c.in_err-take_units.ensures.none
