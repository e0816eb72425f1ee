use Rattle.std.proofs.Common.{◌+◌, ◌*◌, drop}
use Rattle.anf_convert.specs.Anf.{block_of, tail_of}
use Rattle.anf_convert.specs.AnfView.{seen, bindings_of, branches_of, defs_of}
use Rattle.anf_convert.specs.AnfWeight.{binding_weight, block_weight, branches_weight, defs_weight}
use Rattle.closure_lift.specs.LiftedView.{bounds_of}
use Rattle.closure_lift.proofs.Going.{BlockGoes, ArmsGo, DefsGo}
use Rattle.closure_lift.proofs.Lighter.{def_weight}
use Rattle.closure_lift.proofs.lift.+lift.Given as goal

abbrev pub decreases-lift_op : goal.decreases-lift_op
decreases-lift_op l = 4 * binding_weight (seen l.op.now)

abbrev pub decreases-lift_lambda : goal.decreases-lift_lambda
decreases-lift_lambda l = 4 * block_weight l.body.now + 2

abbrev pub decreases-lift_fix : goal.decreases-lift_fix
decreases-lift_fix l = 4 * defs_weight l.defs.now + 1

abbrev pub decreases-lift_body : goal.decreases-lift_body
decreases-lift_body l = 4 * block_weight l.body.now + 1

abbrev pub decreases-lift_block_in : goal.decreases-lift_block_in
decreases-lift_block_in l = 4 * block_weight l.block.now

abbrev pub decreases-lift_arm : goal.decreases-lift_arm
decreases-lift_arm l = 4 * block_weight l.arm.now.body + 1

abbrev pub decreases-lift_arms : goal.decreases-lift_arms
decreases-lift_arms l = 4 * branches_weight l.branches.now

abbrev pub decreases-lift_def : goal.decreases-lift_def
decreases-lift_def l = 4 * def_weight l.def.now + 2

abbrev pub decreases-lift_defs : goal.decreases-lift_defs
decreases-lift_defs l = 4 * defs_weight l.defs.now

abbrev pub invariant-lift_block_in-loop-i : goal.invariant-lift_block_in-loop-i
invariant-lift_block_in-loop-i l =
    BlockGoes l.notes l.initial.variables l.initial.frame l.initial.functions.items (block_of (bindings_of l.ops) (tail_of (seen l.block-inside.tail))) l.i l.variables l.frame l.functions.items (bounds_of l.code.items) (block_of (bindings_of (drop l.i l.ops)) (tail_of (seen l.block-inside.tail)))

abbrev pub invariant-lift_arms-loop-i : goal.invariant-lift_arms-loop-i
invariant-lift_arms-loop-i l =
    ArmsGo l.notes l.initial.variables l.initial.frame l.initial.functions.items (branches_of l.arms) l.variables l.frame l.functions.items l.items.items (branches_of (drop l.i l.arms))

abbrev pub invariant-lift_defs-loop-i : goal.invariant-lift_defs-loop-i
invariant-lift_defs-loop-i l = DefsGo l.notes l.words l.at l.initial.variables l.initial.functions.items (defs_of l.items) l.i l.variables l.functions.items (defs_of (drop l.i l.items))
