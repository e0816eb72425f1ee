use Rattle.std.proofs.Common.{take}
use Rattle.dump_reader.specs.Made.{NumbersEach, family_names, family_levels, family_value}
use Rattle.dump_reader.proofs.declared.families.Given as goal

abbrev pub invariant-loop-tree : goal.invariant-loop-tree
invariant-loop-tree l = NumbersEach family_names family_levels family_value (take l.tree-index l.trees) l.fn.tables l.tables l.items.items
