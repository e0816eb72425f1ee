use Rattle.std.proofs.Common.{◌∙◌}
use Rattle.std.proofs.lemmas.Result.{err_from_is_err_and}
use Rattle.instances.proofs.Parts.{constructor-params, constructor-args, constructor-end, constructor-inner}
use Rattle.instances.proofs.instances.constructors.constructor_type.Goals as goal

pub returns-in_err-params-clause-too_deep : goal.returns-in_err-params-clause-too_deep
returns-in_err-params-clause-too_deep c =
    let p = err_from_is_err_and c.from_residual.result c.from_residual.ensures.1 in
    rw (p.1, p.2) (λ _ G. constructor-params c.args.id c.args.block.now.params G c.args.ctor.now (rw c.len.ensures.is at c.in_err-params.ensures.long))

pub returns-in_err-args-clause-too_deep : goal.returns-in_err-args-clause-too_deep
returns-in_err-args-clause-too_deep c =
    let p = err_from_is_err_and c.from_residual-in_err-args.result c.from_residual-in_err-args.ensures.1 in
    rw (p.1, p.2) (λ _ G. constructor-args c.args.id c.args.block.now.params G c.args.ctor.now (rw c.len-2.ensures.is at c.in_err-args.ensures.long))

pub returns-in_err-end-clause-too_deep : goal.returns-in_err-end-clause-too_deep
returns-in_err-end-clause-too_deep c =
    let p = err_from_is_err_and c.from_residual-in_err-end.result c.from_residual-in_err-end.ensures.1 in
    rw (p.1, p.2) (λ e G. constructor-end c.args.id c.args.block.now.params G c.args.ctor.now c.in_ok-args.args c.in_ok-params.params
    (c.in_ok-args.ensures.is ∙ c.len-2.ensures.is) (c.in_ok-params.ensures.is ∙ c.len.ensures.is) (c.in_err-end.ensures.too_deep e))

pub returns-in_err-inner-clause-too_deep : goal.returns-in_err-inner-clause-too_deep
returns-in_err-inner-clause-too_deep c =
    let p = err_from_is_err_and c.from_residual-in_err-inner.result c.from_residual-in_err-inner.ensures.1 in
    rw (p.1, p.2) (λ e G. constructor-inner c.args.id c.args.block.now.params G c.args.ctor.now c.in_ok-args.args c.in_ok-params.params c.in_ok-end.end
    (c.in_ok-args.ensures.is ∙ c.len-2.ensures.is) (c.in_ok-params.ensures.is ∙ c.len.ensures.is) c.in_ok-end.ensures.ok (c.in_err-inner.ensures.too_deep e))
