use Rattle.std.proofs.lemmas.Result.{err_from_is_err_and}
use Rattle.instances.proofs.Parts.{family-arity}
use Rattle.instances.proofs.instances.families.family_type.Goals as goal

pub returns-in_err-arity-clause-too_deep : goal.returns-in_err-arity-clause-too_deep
returns-in_err-arity-clause-too_deep c =
    let p = err_from_is_err_and c.from_residual-in_err-arity.result c.from_residual-in_err-arity.ensures.1 in
    rw (p.1, p.2) (λ e. family-arity c.args.block.now.params c.args.family.now c.in_ok-sort.sort c.in_ok-sort.ensures.ok (c.in_err-arity.ensures.too_deep e))
