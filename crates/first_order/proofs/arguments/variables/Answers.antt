use Rattle.std.proofs.Common.{◌<◌, arith}
use Rattle.first_order.proofs.Working.{variable_pushed}
use Rattle.first_order.proofs.arguments.variables.Goals as goal

pub loop-i-preserved : goal.loop-i-preserved
loop-i-preserved c =
    let lt : c.loop-i.i < c.args.count = omega arith in
    variable_pushed c.loop-i.out c.push.new.self c.in_ok-variable.variable c.args.count c.loop-i.i c.in_ok-push.ensures.ok c.in_ok-variable.ensures.ok lt c.loop-i.invariant
