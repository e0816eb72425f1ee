use Rattle.std.proofs.Common.{rules, ◌≡◌, ◌<◌, ◌∙◌, subst}
use Rattle.std.proofs.lemmas.Result.{err_from_is_err_and}
use Rattle.trees.specs.Measures.{depth, depth_limit}
use Rattle.box_passes.specs.Heads.{head}
use Rattle.box_passes.proofs.Heading.{saturated_head}
use Rattle.box_passes.proofs.saturation.saturated_term.Goals as goal

pub returns-in_err-term-clause-too_deep : goal.returns-in_err-term-clause-too_deep
returns-in_err-term-clause-too_deep c =
    let p = err_from_is_err_and c.from_residual.result c.from_residual.ensures.1 in
    rw (p.1, p.2) (λ q. subst (λ u. depth_limit < depth u) (saturated_head c.args.fs.now c.args.t.now) (c.in_err-term.ensures.too_deep q))

pub returns-clause-ok : goal.returns-clause-ok
returns-clause-ok c =
    let h : c.in_ok-term.field-0.term ≡ head c.args.fs.now c.args.t.now 0 = search rules in
    h ∙ saturated_head c.args.fs.now c.args.t.now
