use Rattle.std.proofs.Common.{◌∷◌, [], ◌++◌, map, ap, ◌∙◌}
use Rattle.std.proofs.lemmas.Result.{err_from_is_err_and}
use Rattle.pc_terms.specs.Syntax.{apply, shift, variables, Construct}
use Rattle.calculus_rules.specs.Instances.{result_at}
use Rattle.instances.proofs.Parts.{branch-count, branch-type}
use Rattle.instances.proofs.instances.branches.branch_type.Goals as goal

pub returns-in_err-count-clause-too_deep : goal.returns-in_err-count-clause-too_deep
returns-in_err-count-clause-too_deep c =
    let p = err_from_is_err_and c.from_residual.result c.from_residual.ensures.1 in
    rw (p.1, p.2) (λ _. branch-count c.args.m.now.family c.args.c c.args.ctor.now c.args.m.now.params c.args.m.now.ret (rw c.len.ensures.is at c.in_err-count.ensures.long))

pub returns-in_err-ty-clause-too_deep : goal.returns-in_err-ty-clause-too_deep
returns-in_err-ty-clause-too_deep c =
    let p = err_from_is_err_and c.from_residual-in_err-ty.result c.from_residual-in_err-ty.ensures.1 in
    let count = c.in_ok-count.ensures.is ∙ c.len.ensures.is in
    let built = c.in_ok-built.ensures.ok ∙ ap (λ h. apply h (map (shift c.in_ok-count.count 0) c.args.m.now.params ++ variables c.in_ok-count.count)) c.in_ok-head.ensures.ok
    ∙ ap (λ n. apply (Construct c.args.m.now.family c.args.c) (map (shift n 0) c.args.m.now.params ++ variables n)) count in
    let list = c.in_ok-push.ensures.ok ∙ ap (λ ts. ts ++ (c.in_ok-built.built ∷ [])) c.in_ok-list.ensures.ok
    ∙ ap (λ t. result_at c.args.ctor.now c.args.m.now.params ++ (t ∷ [])) built in
    rw (p.1, p.2) (λ e. branch-type c.args.m.now.family c.args.c c.args.ctor.now c.args.m.now.params c.args.m.now.ret c.in_ok-count.count _ count list (c.in_err-ty.ensures.too_deep e))
