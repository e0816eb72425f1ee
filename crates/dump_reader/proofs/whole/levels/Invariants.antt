use Rattle.std.proofs.Common.{take}
use Rattle.dump_reader.specs.Made.{NumbersEach, level_names, level_levels, level_value}
use Rattle.dump_reader.proofs.whole.levels.Given as goal

abbrev pub invariant-loop-text : goal.invariant-loop-text
invariant-loop-text l = NumbersEach level_names level_levels level_value (take l.text-index l.texts) l.fn.tables l.tables l.items.items
