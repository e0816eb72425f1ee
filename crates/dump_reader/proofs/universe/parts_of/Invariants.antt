use Rattle.std.proofs.Common.{◌∷◌, take}
use Rattle.dump_reader.specs.Made.{NumbersEach, part_names, part_levels, numbered_part}
use Rattle.dump_reader.proofs.universe.parts_of.Given as goal

abbrev pub invariant-loop-part : goal.invariant-loop-part
invariant-loop-part l = NumbersEach part_names part_levels numbered_part (l.first ∷ take l.part-index l.more) l.fn.tables l.tables l.items.items
