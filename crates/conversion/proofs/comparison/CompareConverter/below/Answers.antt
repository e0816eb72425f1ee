use Rattle.conversion.proofs.Sound.{asked, below_from}
use Rattle.conversion.proofs.comparison.CompareConverter.below.Goals as goal

pub compare-requires-clause-comparable : goal.compare-requires-clause-comparable
compare-requires-clause-comparable g c =
    asked c.args.env.now c.args.ctx.now c.args.a.now c.args.b.now c.requires.env c.requires.ctx c.requires.left c.requires.right

pub returns-clause-below : goal.returns-clause-below
returns-clause-below g c =
    below_from c.args.env.now c.args.ctx.now c.args.a.now c.args.b.now c.room.result _ c.args.m.now c.compare.new.m c.graph.ensures.consistent
    (asked c.args.env.now c.args.ctx.now c.args.a.now c.args.b.now c.requires.env c.requires.ctx c.requires.left c.requires.right) c.compare.ensures.follows
