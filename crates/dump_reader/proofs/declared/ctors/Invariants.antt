use Rattle.std.proofs.Common.{take}
use Rattle.dump_reader.specs.Made.{NumbersEach, ctor_names, ctor_levels, ctor_value}
use Rattle.dump_reader.proofs.declared.ctors.Given as goal

abbrev pub invariant-loop-tree : goal.invariant-loop-tree
invariant-loop-tree l = NumbersEach ctor_names ctor_levels ctor_value (take l.tree-index l.trees) l.fn.tables l.tables l.items.items
