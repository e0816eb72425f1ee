use Rattle.std.proofs.Common.{◌∙◌}
use Rattle.std.proofs.lemmas.Result.{err_from_is_err_and}
use Rattle.instances.proofs.Parts.{predicate-count, predicate-indices, predicate-scrutinee}
use Rattle.instances.proofs.instances.predicates.predicate_entries.Goals as goal

pub returns-in_err-count-clause-too_deep : goal.returns-in_err-count-clause-too_deep
returns-in_err-count-clause-too_deep c =
    let p = err_from_is_err_and c.from_residual.result c.from_residual.ensures.1 in
    rw (p.1, p.2) (λ _ Ps. predicate-count c.args.id Ps c.args.family.now c.args.params.now (rw c.len.ensures.is at c.in_err-count.ensures.long))

pub returns-in_err-entries-clause-too_deep : goal.returns-in_err-entries-clause-too_deep
returns-in_err-entries-clause-too_deep c =
    let p = err_from_is_err_and c.from_residual-in_err-entries.result c.from_residual-in_err-entries.ensures.1 in
    rw (p.1, p.2) (λ e Ps. predicate-indices c.args.id Ps c.args.family.now c.args.params.now (c.in_err-entries.ensures.too_deep e))

pub returns-in_err-scrutinee-clause-too_deep : goal.returns-in_err-scrutinee-clause-too_deep
returns-in_err-scrutinee-clause-too_deep c =
    let p = err_from_is_err_and c.from_residual-in_err-scrutinee.result c.from_residual-in_err-scrutinee.ensures.1 in
    rw (p.1, p.2) (λ e Ps. predicate-scrutinee c.args.id Ps c.args.family.now c.args.params.now c.in_ok-count.count c.in_ok-head.head
    (c.in_ok-count.ensures.is ∙ c.len.ensures.is) c.in_ok-head.ensures.ok (c.in_err-scrutinee.ensures.too_deep e))
