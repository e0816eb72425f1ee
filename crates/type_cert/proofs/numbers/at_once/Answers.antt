use Rattle.std.proofs.Common.{arith, refl}
use Rattle.calculus_rules.specs.Context.{values}
use Rattle.type_cert.proofs.Stepping.{walked_at_once}
use Rattle.type_cert.proofs.numbers.at_once.Goals as goal

pub returns-in-Some-clause-retraces : goal.returns-in-Some-clause-retraces
returns-in-Some-clause-retraces c item =
    walked_at_once c.args.env.now (values c.args.ctx.now) item c.args.n c.args.t.now c.in-Some.term c.args.trail.now _ c.in-Some.ensures.after (omega (arith, c.left.ensures.is)) refl refl
    refl
