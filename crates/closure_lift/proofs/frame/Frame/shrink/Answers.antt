use Rattle.std.proofs.Common.{ap, ◌∙◌, sym, drop}
use Rattle.closure_lift.proofs.Placing.{drop_twice}
use Rattle.closure_lift.proofs.frame.Frame.shrink.Goals as goal

pub loop-i-preserved : goal.loop-i-preserved
loop-i-preserved c = c.in_ok-pop.ensures.ok ∙ ap (drop 1) c.loop-i.invariant ∙ sym (drop_twice c.args.self.now c.loop-i._i 1)
