use Rattle.type_infer.proofs.Sorts.{over_from}
use Rattle.type_infer.proofs.inference.Inference.below.Goals as goal

pub sorts_below-requires-clause-left : goal.sorts_below-requires-clause-left
sorts_below-requires-clause-left g c = rw c.in-Sort-Sort.is-0 at c.view.ensures.is

pub sorts_below-requires-clause-right : goal.sorts_below-requires-clause-right
sorts_below-requires-clause-right g c = rw c.in-Sort-Sort.is-1 at c.view-2.ensures.is

pub sorts_below-requires-clause-constraints : goal.sorts_below-requires-clause-constraints
sorts_below-requires-clause-constraints g c = c.requires.ready.env.constraints

pub sorts_below-requires-clause-left_over : goal.sorts_below-requires-clause-left_over
sorts_below-requires-clause-left_over g c = over_from c.args.env.now _ _ (rw c.in-Sort-Sort.is-0 at c.view.ensures.is) c.requires.left

pub sorts_below-requires-clause-right_over : goal.sorts_below-requires-clause-right_over
sorts_below-requires-clause-right_over g c = over_from c.args.env.now _ _ (rw c.in-Sort-Sort.is-1 at c.view-2.ensures.is) c.requires.right

pub returns-in-Sort-Sort : goal.returns-in-Sort-Sort
returns-in-Sort-Sort g c = record { follows = c.sorts_below.ensures.follows c.args.ctx.now c.args.room c.requires.nest }
