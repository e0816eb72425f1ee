use Rattle.std.proofs.Common.{◌-◌}
use Rattle.mem_value.specs.Marks.{IsSearched}
use Rattle.mem_value.proofs.blocks.address_stands.Given as goal

abbrev pub invariant-loop-passed : goal.invariant-loop-passed
invariant-loop-passed l = IsSearched l.memory l.top (l.top - l.passed) l.marks.items
