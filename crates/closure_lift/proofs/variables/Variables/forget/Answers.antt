use Rattle.closure_lift.proofs.Scoped.{one_more}
use Rattle.closure_lift.proofs.variables.Variables.forget.Goals as goal

pub loop-i-preserved : goal.loop-i-preserved
loop-i-preserved c = one_more c.loop-i._i c.args.self.now c.loop-i.self c.pop.new.self c.loop-i.invariant c.pop.ensures.is
