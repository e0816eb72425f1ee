use Rattle.std.proofs.Common.{arith, ◌<◌, ◌-◌, ap, ◌∙◌}
use Rattle.std.proofs.lemmas.Result.{err_from_is_err_and}
use Rattle.box_terms.specs.BoxSyntax.{BApp, BLambda}
use Rattle.lambda_box.specs.BoxProgram.{box_apply}
use Rattle.box_passes.specs.Saturate.{innermost, lambdas, constructor_function}
use Rattle.box_passes.proofs.Heading.{next_variable, next_lambda, function_deep, lambdas_deep}
use Rattle.box_passes.proofs.saturation.function.Goals as goal

pub returns-in_err-t-2-clause-too_deep : goal.returns-in_err-t-2-clause-too_deep
returns-in_err-t-2-clause-too_deep c =
    let pos : 0 < c.variables.i = grind arith in
    let e = ap (λ v. box_apply (BApp c.variables.t v) (innermost (c.variables.i - 1))) c.in_ok-variable.ensures.ok ∙ next_variable c.variables.i c.variables.t pos ∙ c.variables.invariant in
    let p = err_from_is_err_and c.from_residual-in_err-t-2.result c.from_residual-in_err-t-2.ensures.1 in
    rw (p.1, p.2) (λ q. function_deep c.args.k.params c.args.k.args (c.variables.i - 1) c.args.f c.args.c (BApp c.variables.t c.in_ok-variable.variable) e (c.in_err-t-2.ensures.too_deep q))

pub variables-preserved : goal.variables-preserved
variables-preserved c =
    let pos : 0 < c.variables.i = grind arith in
    ap (λ u. box_apply u (innermost (c.variables.i - 1))) c.in_ok-t-2.ensures.ok
    ∙ ap (λ v. box_apply (BApp c.variables.t v) (innermost (c.variables.i - 1))) c.in_ok-variable.ensures.ok ∙ next_variable c.variables.i c.variables.t pos ∙ c.variables.invariant

pub returns-in_err-t-3-clause-too_deep : goal.returns-in_err-t-3-clause-too_deep
returns-in_err-t-3-clause-too_deep c =
    let pos : 0 < c.binders.binders = grind arith in
    let p = err_from_is_err_and c.from_residual-in_err-t-3.result c.from_residual-in_err-t-3.ensures.1 in
    rw (p.1, p.2)
    (λ q. lambdas_deep (c.binders.binders - 1) (BLambda c.binders.t) (constructor_function c.args.k.params c.args.k.args c.args.f c.args.c) (next_lambda c.binders.binders c.binders.t pos ∙ c.binders.invariant)
    (c.in_err-t-3.ensures.too_deep q))

pub binders-preserved : goal.binders-preserved
binders-preserved c =
    let pos : 0 < c.binders.binders = grind arith in
    ap (lambdas (c.binders.binders - 1)) c.in_ok-t-3.ensures.ok ∙ next_lambda c.binders.binders c.binders.t pos ∙ c.binders.invariant
