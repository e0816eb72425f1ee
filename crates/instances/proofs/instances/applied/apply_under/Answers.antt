use Rattle.std.proofs.Common.{◌++◌, map, ap, ◌∙◌}
use Rattle.std.proofs.lemmas.Result.{err_from_is_err_and}
use Rattle.pc_terms.specs.Syntax.{shift, apply, variables}
use Rattle.instances.proofs.Beyond.{any_beyond-left}
use Rattle.instances.proofs.Applying.{apply-any_beyond, variables-none}
use Rattle.instances.proofs.instances.applied.apply_under.Goals as goal

pub returns-in_err-arguments-clause-too_deep : goal.returns-in_err-arguments-clause-too_deep
returns-in_err-arguments-clause-too_deep c =
    let p = err_from_is_err_and c.from_residual.result c.from_residual.ensures.1 in
    rw (p.1, p.2) (λ e. apply-any_beyond c.args.head.now (map (shift c.args.count 0) c.args.params.now ++ variables c.args.count)
    (any_beyond-left (map (shift c.args.count 0) c.args.params.now) (variables c.args.count) (c.in_err-arguments.ensures.too_deep e)))

pub returns-in_err-applied-clause-too_deep : goal.returns-in_err-applied-clause-too_deep
returns-in_err-applied-clause-too_deep c =
    let p = err_from_is_err_and c.from_residual-in_err-applied.result c.from_residual-in_err-applied.ensures.1 in
    let list = c.in_ok-push_variables.ensures.ok ∙ ap (λ ts. c.in_ok-arguments.arguments ++ ts) (variables-none c.args.count) ∙ ap (λ ts. ts ++ variables c.args.count) c.in_ok-arguments.ensures.ok in
    rw (p.1, p.2) (λ e. rw list at (c.in_err-applied.ensures.too_deep e))

pub returns-clause-ok : goal.returns-clause-ok
returns-clause-ok c =
    let list = c.in_ok-push_variables.ensures.ok ∙ ap (λ ts. c.in_ok-arguments.arguments ++ ts) (variables-none c.args.count) ∙ ap (λ ts. ts ++ variables c.args.count) c.in_ok-arguments.ensures.ok in
    c.in_ok-applied.ensures.ok ∙ ap (apply c.args.head.now) list
