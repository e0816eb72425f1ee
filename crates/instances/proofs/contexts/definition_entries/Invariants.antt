use Rattle.std.proofs.Common.{◌≡◌, take}
use Rattle.pc_terms.specs.Lists.{types_of}
use Rattle.pc_terms.specs.Syntax.{list_of}
use Rattle.pc_rules.specs.DirectedComparison.{lifted_types}
use Rattle.instances.proofs.contexts.definition_entries.Given as goal

abbrev pub invariant-loop-i : goal.invariant-loop-i
invariant-loop-i l = l.out ≡ lifted_types 0 (list_of (types_of (take l.i l.items)))
