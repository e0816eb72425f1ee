use Rattle.std.proofs.Common.{inl, inr}
use Rattle.std.proofs.lemmas.Result.{err_from_is_err_and}
use Rattle.lazy_conversion.proofs.same_values.same_read.Goals as goal

pub returns-in_err-left-clause-too_deep : goal.returns-in_err-left-clause-too_deep
returns-in_err-left-clause-too_deep c =
    let p = err_from_is_err_and c.from_residual.result c.from_residual.ensures.1 in
    rw (p.1, p.2) (λ e. inl (c.in_err-left.ensures.too_deep e))

pub returns-in_err-right-clause-too_deep : goal.returns-in_err-right-clause-too_deep
returns-in_err-right-clause-too_deep c =
    let p = err_from_is_err_and c.from_residual-in_err-right.result c.from_residual-in_err-right.ensures.1 in
    rw (p.1, p.2) (λ e. inr (c.in_err-right.ensures.too_deep e))
