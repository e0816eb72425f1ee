use Rattle.std.proofs.lemmas.Result.{err_from_is_err_and}
use Rattle.pc_terms.specs.Syntax.{Ind}
use Rattle.type_infer.proofs.MatchLists.{beyond_before}
use Rattle.type_infer.proofs.scrutinees.family_at_indices.Goals as goal
use Rattle.pc_terms.proofs.Applied.{apply-append}

pub returns-in_err-at_params-clause-too_deep : goal.returns-in_err-at_params-clause-too_deep
returns-in_err-at_params-clause-too_deep c =
    let p = err_from_is_err_and c.from_residual-in_err-at_params.result c.from_residual-in_err-at_params.ensures.1 in
    let head = c.in_ok-head.ensures.ok in
    rw (p.1, p.2) (λ e. beyond_before (Ind c.args.id) c.args.params.now c.args.indices.now (rw head at (c.in_err-at_params.ensures.too_deep e)))

pub returns-clause-ok : goal.returns-clause-ok
returns-clause-ok c =
    rw apply-append (rw (c.in_ok-at_params.ensures.ok, c.in_ok-head.ensures.ok) at c.apply-2.ensures.ok)

pub returns-clause-too_deep : goal.returns-clause-too_deep
returns-clause-too_deep c =
    rw apply-append (rw (c.in_ok-at_params.ensures.ok, c.in_ok-head.ensures.ok) at c.apply-2.ensures.too_deep)
