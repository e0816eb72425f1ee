use Rattle.std.proofs.Common.{◌∙◌, sym, ap}
use Rattle.reduce_machine.proofs.ValueParts.{lessened_more}
use Rattle.reduce_machine.proofs.values.lessened.Goals as goal

pub loop-n-preserved : goal.loop-n-preserved
loop-n-preserved c = lessened_more c.loop-n._n c.args.missing c.loop-n.left c.loop-n.invariant ∙ sym c.less-left.ensures.is
