use Rattle.std.proofs.Common.{rules, arith, ◌*◌, ◌+◌, ◌<◌}
use Rattle.closure_lift.specs.LiftedView.{seen, branches_of}
use Rattle.closure_lift.specs.LiftedWeight.{block_weight, branches_weight, bound_weight}
use Rattle.wasm_emit.proofs.Lighter.{op_lighter, tail_lighter, arm_lighter}
use Rattle.wasm_emit.proofs.Pushing.{top_least, branches_least, end_locals, case_locals}
use Rattle.wasm_emit.proofs.locals.+counts.Goals as goal

pub locals_of_block-locals_of_op-requires : goal.locals_of_block-locals_of_op-requires
locals_of_block-locals_of_op-requires t c =
    let d : 2 * bound_weight (seen c.op-item.result) + 1 < 2 * block_weight c.args.b.now = op_lighter c.as_slice-op-items.result.now c.b.inside.bindings c.loop-op.op-index c.op-item.result c.b.inside.tail c.args.b.now c.loop-op-test.true c.op-item.is c.as_slice-op-items.ensures.is c.b.view_is in
    (search (rules, d), c.loop-op.invariant.1)

pub locals_of_block-locals_of_op-requires-2 : goal.locals_of_block-locals_of_op-requires-2
locals_of_block-locals_of_op-requires-2 t c =
    let d : 2 * bound_weight (seen c.b.inside.tail) + 1 < 2 * block_weight c.args.b.now = tail_lighter c.b.inside.bindings c.b.inside.tail c.args.b.now c.b.view_is in
    (search (rules, d), c.loop-op.invariant.1)

pub locals_of_block-returns-clause-ok : goal.locals_of_block-returns-clause-ok
locals_of_block-returns-clause-ok t c =
    let e = end_locals c.as_slice-op-items.result.now c.loop-op.op-index c.loop-op.at c.b.inside.tail c.loop-op-test.false in
    (omega (arith, e, c.loop-op.invariant.0, c.in_ok-last.ensures.ok.0, c.max-2.ensures, top_least c.args.d c.args.b.now), omega (arith, c.loop-op.invariant.2, c.in_ok-last.ensures.ok.1, c.max-2.ensures))

pub locals_of_branches-loop-b-init : goal.locals_of_branches-loop-b-init
locals_of_branches-loop-b-init t c = let h = branches_least c.args.d (branches_of c.args.bs.now) in (omega arith, omega arith, c.requires.below)

pub locals_of_branches-locals_of_block-requires : goal.locals_of_branches-locals_of_block-requires
locals_of_branches-locals_of_block-requires t c =
    let d = arm_lighter c.args.bs.now c.loop-b.b-index c.b-item.result c.loop-b-test.true c.b-item.is in
    let e : 2 * block_weight c.b-item.result.body < 2 * branches_weight (branches_of c.args.bs.now) = omega (arith, d) in
    (search (rules, e), c.requires.below)

pub locals_of_op-returns-in_ok-inner-in-Case-clause-ok :
    goal.locals_of_op-returns-in_ok-inner-in-Case-clause-ok
locals_of_op-returns-in_ok-inner-in-Case-clause-ok t c =
    case_locals c.locals_of_branches.result c.in_ok-inner-in-Case.inner c.args.d c.args.most c.as_slice.result.now c.args.op.now c.in-Case.field-0 c.in-Case.bs c.in_ok-inner-in-Case.ensures.ok.0 c.as_slice.ensures.is c.in-Case.is c.locals_of_branches.ensures.ok
