use Rattle.std.proofs.Common.{rules}
use Rattle.dump_reader.specs.Made.{family_names, family_levels, family_value}
use Rattle.dump_reader.proofs.Growth.{nothing-yet, one-more-at}
use Rattle.dump_reader.proofs.declared.families.Goals as goal

pub loop-tree-init : goal.loop-tree-init
loop-tree-init c = nothing-yet family_names family_levels family_value c.args.tables.now c.new-items.result.items (search rules)

pub loop-tree-preserved : goal.loop-tree-preserved
loop-tree-preserved c =
    one-more-at family_names family_levels family_value c.args.trees.now c.loop-tree.tree-index c.tree-item.result c.loop-tree.items.items c.push.new.self.items c.in_ok-item.item c.tree-item.is c.loop-tree-test.true (search rules)
    c.loop-tree.invariant c.in_ok-item.ensures.made
