use Rattle.std.proofs.Common.{◌<◌, length, slice_index_or, arith}
use Rattle.module_rows.proofs.Nodes.{forest_more, small_more}
use Rattle.module_rows.proofs.arguments.is_small_tree.Goals as goal

pub loop-i-preserved : goal.loop-i-preserved
loop-i-preserved c =
    let nodes = c.args.nodes.now in let i = c.loop-i.i in let w = c.loop-i.wanted in
    let lt : i < length nodes = grind arith in
    let pos : 0 < w = grind arith in
    let number : (slice_index_or nodes i (0, 0)).0 < 65536 = grind arith in
    let count : (slice_index_or nodes i (0, 0)).1 < 65536 = grind arith in
    record {
      tree = λ h. c.loop-i.invariant.tree (forest_more nodes i w (0, 0) lt pos h);
      small = λ h. c.loop-i.invariant.small (small_more nodes i (0, 0) lt (number, count) h);
    }
