use Rattle.std.proofs.Common.{arith}
use Rattle.calculus_rules.specs.Context.{values}
use Rattle.type_cert.proofs.Stepping.{whnf_after}
use Rattle.type_cert.proofs.numbers.normal_after.Goals as goal

pub returns-then-left-eq0-clause-after : goal.returns-then-left-eq0-clause-after
returns-then-left-eq0-clause-after c =
    whnf_after c.args.env.now (values c.args.ctx.now) c.args.n c.args.t.now c.in-Ok.term c.new-units.result.account c.whnf.new.m.account c.in-Ok.ensures.follows.answer
    c.new-units.ensures.left (omega (arith, c.left.ensures.is))
