use Rattle.conversion.proofs.Sound.{asked, equal_from}
use Rattle.lazy_conversion.proofs.comparison.LazyCompareConverter.equal.Goals as goal

pub compare_terms-requires-clause-comparable : goal.compare_terms-requires-clause-comparable
compare_terms-requires-clause-comparable c =
    asked c.args.env.now c.args.ctx.now c.args.a.now c.args.b.now c.requires.env c.requires.ctx c.requires.left c.requires.right

pub returns-clause-equal : goal.returns-clause-equal
returns-clause-equal c =
    equal_from c.args.env.now c.args.ctx.now c.args.a.now c.args.b.now c.room.result _ c.args.m.now c.compare_terms.new.m c.graph.ensures.consistent
    (asked c.args.env.now c.args.ctx.now c.args.a.now c.args.b.now c.requires.env c.requires.ctx c.requires.left c.requires.right) c.compare_terms.ensures.follows
