use Rattle.std.proofs.Common.{◌∷◌, [], ◌++◌, ap, ◌∙◌}
use Rattle.std.proofs.lemmas.Result.{err_from_is_err_and}
use Rattle.instances.proofs.Parts.{predicate-at}
use Rattle.instances.proofs.instances.predicates.pred_at.Goals as goal

pub returns-in_err-at-clause-too_deep : goal.returns-in_err-at-clause-too_deep
returns-in_err-at-clause-too_deep c =
    let p = err_from_is_err_and c.from_residual-in_err-at.result c.from_residual-in_err-at.ensures.1 in
    let list = c.in_ok-push.ensures.ok ∙ ap (λ ts. ts ++ (c.in_ok-scrut.scrut ∷ [])) (c.in_ok-push_shared.ensures.ok ∙ ap (λ ts. ts ++ c.args.indices.now) c.new-list.ensures.empty)
    ∙ ap (λ t. c.args.indices.now ++ (t ∷ [])) c.in_ok-scrut.ensures.ok in
    rw (p.1, p.2) (λ e. predicate-at c.args.m.now.ret c.args.indices.now c.args.scrut.now _ list (c.in_err-at.ensures.too_deep e))
