use Rattle.std.proofs.Common.{rules}
use Rattle.dump_reader.specs.Made.{constraint_names, constraint_levels, constraint_value}
use Rattle.dump_reader.proofs.Growth.{nothing-yet}
use Rattle.dump_reader.proofs.Members.{one-constraint}
use Rattle.dump_reader.proofs.whole.constraints.Goals as goal

pub loop-tree-init : goal.loop-tree-init
loop-tree-init c = nothing-yet constraint_names constraint_levels constraint_value c.args.tables.now c.new-items.result.items (search rules)

pub loop-tree-preserved : goal.loop-tree-preserved
loop-tree-preserved c =
    one-constraint c.args.trees.now c.loop-tree.tree-index _ c.loop-tree.items.items c.push.new.self.items c.in_ok-left.left c.in_ok-right.right c.relation-relation.result c.loop-tree-test.true c.relation-relation.ensures.same (search rules)
    c.loop-tree.invariant c.in_ok-left.ensures.made c.in_ok-right.ensures.made
