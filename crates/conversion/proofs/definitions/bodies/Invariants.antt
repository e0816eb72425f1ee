use Rattle.std.proofs.Common.{◌≡◌, length, take}
use Rattle.pc_terms.specs.Lists.{bodies_of}
use Rattle.pc_terms.specs.Syntax.{list_of}
use Rattle.conversion.proofs.definitions.bodies.Given as goal

abbrev pub invariant-loop-i : goal.invariant-loop-i
invariant-loop-i l = l.out ≡ list_of (bodies_of (length l.items) (take l.i l.items))
