use Rattle.conversion.proofs.Sound.{asked, below_from}
use Rattle.lazy_conversion.proofs.comparison.LazyCompareConverter.below.Goals as goal

pub compare_terms-requires-clause-comparable : goal.compare_terms-requires-clause-comparable
compare_terms-requires-clause-comparable c =
    asked c.args.env.now c.args.ctx.now c.args.a.now c.args.b.now c.requires.env c.requires.ctx c.requires.left c.requires.right

pub returns-clause-below : goal.returns-clause-below
returns-clause-below c =
    below_from c.args.env.now c.args.ctx.now c.args.a.now c.args.b.now c.room.result _ c.args.m.now c.compare_terms.new.m c.graph.ensures.consistent
    (asked c.args.env.now c.args.ctx.now c.args.a.now c.args.b.now c.requires.env c.requires.ctx c.requires.left c.requires.right) c.compare_terms.ensures.follows
