use Rattle.std.proofs.Common.{arith}
use Rattle.dump_printer.proofs.Lists.{anonymous-next, anonymous-end, along}
use Rattle.dump_printer.proofs.sorts.write_binders.Goals as goal

pub loop-preserved : goal.loop-preserved
loop-preserved g c = λ s more h. c.write_anonymous.ensures.goes s _ (along (anonymous-next c.args.count c.loop.counter more (omega arith)) (c.loop.invariant s more h))

pub returns : goal.returns
returns g c = record { goes = λ s more h. along (anonymous-end c.args.count c.loop.counter more (omega arith)) (c.loop.invariant s more h) }
