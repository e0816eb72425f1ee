use Rattle.std.proofs.Common.{take}
use Rattle.dump_reader.specs.Made.{NumbersEach, constraint_names, constraint_levels, constraint_value}
use Rattle.dump_reader.proofs.whole.constraints.Given as goal

abbrev pub invariant-loop-tree : goal.invariant-loop-tree
invariant-loop-tree l = NumbersEach constraint_names constraint_levels constraint_value (take l.tree-index l.trees) l.fn.tables l.tables l.items.items
