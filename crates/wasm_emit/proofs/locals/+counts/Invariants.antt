use Rattle.std.proofs.Common.{◌≡◌, ◌+◌, ◌*◌, ◌≤◌, drop, max}
use Rattle.closure_lift.specs.Lifted.{tail_of, block_of}
use Rattle.closure_lift.specs.LiftedView.{seen, bounds_of, branches_of}
use Rattle.closure_lift.specs.LiftedWeight.{block_weight, branches_weight, bound_weight}
use Rattle.wasm_emit.specs.EmittedLocals.{top, top_branches}
use Rattle.wasm_emit.proofs.locals.+counts.Given as goal

abbrev pub decreases-locals_of_block : goal.decreases-locals_of_block
decreases-locals_of_block l = 2 * block_weight l.b.now

abbrev pub decreases-locals_of_op : goal.decreases-locals_of_op
decreases-locals_of_op l = 2 * bound_weight (seen l.op.now) + 1

abbrev pub decreases-locals_of_branches : goal.decreases-locals_of_branches
decreases-locals_of_branches l = 2 * branches_weight (branches_of l.bs.now)

abbrev pub invariant-locals_of_block-loop-op : goal.invariant-locals_of_block-loop-op
invariant-locals_of_block-loop-op l = (max l.count (top l.at (block_of (bounds_of (drop l.op-index l.op-items)) (tail_of (seen l.b-inside.tail)))) ≡ max l.d (top l.d l.b)) × (l.at ≤ l.most) × (l.count ≤ l.most)

abbrev pub invariant-locals_of_branches-loop-b : goal.invariant-locals_of_branches-loop-b
invariant-locals_of_branches-loop-b l = (max l.count (top_branches l.d (branches_of (drop l.b-index l.bs))) ≡ top_branches l.d (branches_of l.bs)) × (l.d ≤ l.count) × (l.count ≤ l.most)
