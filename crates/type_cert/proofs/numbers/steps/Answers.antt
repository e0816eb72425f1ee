use Rattle.std.proofs.Common.{subst}
use Rattle.calculus_rules.specs.Context.{values}
use Rattle.cert_rules.specs.WalkSteps.{walk_steps}
use Rattle.type_cert.specs.Retraces.{Retraces, stand}
use Rattle.type_cert.proofs.numbers.steps.Goals as goal

pub returns-in-None-clause-retraces : goal.returns-in-None-clause-retraces
returns-in-None-clause-retraces c =
    subst (λ t. Retraces (walk_steps c.args.env.now (values c.args.ctx.now) c.args.item c.args.n c.args.t (stand t)) c.one_by_one.result t c.one_by_one.new.trail)
    (c.in-None.ensures.retraces c.args.item) c.one_by_one.ensures.retraces
