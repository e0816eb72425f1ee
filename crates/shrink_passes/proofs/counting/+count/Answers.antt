use Rattle.std.proofs.Common.{rules, arith, ◌+◌, ◌<◌, ◌≤◌, length, subst}
use Rattle.trees.specs.Measures.{depth, depth_trees, depth_limit}
use Rattle.box_terms.specs.BoxLists.{arms_of, bodies_of}
use Rattle.box_terms.proofs.Items.{arm_is_less, body_is_less}
use Rattle.shrink_passes.proofs.counting.+count.Goals as goal

pub count_branches-count-requires : goal.count_branches-count-requires
count_branches-count-requires t c =
    let l : c.loop-i.i < length c.as_slice-xs.result.now = grind arith in
    let d = subst (λ xs. depth c.index-xs-i.result.body ≤ depth_trees (arms_of xs)) c.as_slice-xs.ensures.is (arm_is_less c.as_slice-xs.result.now c.loop-i.i c.index-xs-i.result l c.index-xs-i.is) in
    let room : c.args.n + depth c.index-xs-i.result.body ≤ depth_limit + 1 = omega (arith, d, c.requires.room) in
    search (rules, d, room)

pub count_defs-count-requires : goal.count_defs-count-requires
count_defs-count-requires t c =
    let l : c.loop-i.i < length c.as_slice-xs.result.now = grind arith in
    let d = subst (λ ds. depth c.index-xs-i.result.body ≤ depth_trees (bodies_of (length c.args.ds.now) ds)) c.as_slice-xs.ensures.is
    (body_is_less (length c.args.ds.now) c.as_slice-xs.result.now c.loop-i.i c.index-xs-i.result l c.index-xs-i.is) in
    let room : c.args.n + depth c.index-xs-i.result.body ≤ depth_limit + 1 = omega (arith, d, c.requires.room) in
    search (rules, d, room)
