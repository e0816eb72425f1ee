use Rattle.conversion.proofs.Sound.{asked, equal_from}
use Rattle.conversion.proofs.comparison.CompareConverter.equal.Goals as goal

pub compare-requires-clause-comparable : goal.compare-requires-clause-comparable
compare-requires-clause-comparable g c =
    asked c.args.env.now c.args.ctx.now c.args.a.now c.args.b.now c.requires.env c.requires.ctx c.requires.left c.requires.right

pub returns-clause-equal : goal.returns-clause-equal
returns-clause-equal g c =
    equal_from c.args.env.now c.args.ctx.now c.args.a.now c.args.b.now c.room.result _ c.args.m.now c.compare.new.m c.graph.ensures.consistent
    (asked c.args.env.now c.args.ctx.now c.args.a.now c.args.b.now c.requires.env c.requires.ctx c.requires.left c.requires.right) c.compare.ensures.follows
