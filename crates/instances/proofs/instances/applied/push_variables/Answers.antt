use Rattle.std.proofs.Common.{◌<◌, ◌++◌, ap, sym, ◌∙◌, arith}
use Rattle.instances.proofs.Applying.{pushed, variables-next}
use Rattle.instances.proofs.instances.applied.push_variables.Goals as goal

pub loop-i-preserved : goal.loop-i-preserved
loop-i-preserved c =
    let lt : c.loop-i.i < c.args.count = omega arith in
    pushed _ _ _ _ _ _ c.in_ok-push.ensures.ok c.in_ok-variable.ensures.ok
    (ap (λ ts. c.loop-i.out ++ ts) (sym (variables-next c.args.above c.args.count c.loop-i.i lt)) ∙ c.loop-i.invariant)
