use Rattle.std.proofs.Common.{◌≡◌, drop}
use Rattle.pc_rules.specs.DirectedFirstOrder.{place_in}
use Rattle.first_order.proofs.Working.{further}
use Rattle.first_order.proofs.searching.place_in.Given as goal

abbrev pub invariant-loop-i : goal.invariant-loop-i
invariant-loop-i l = place_in l.ty l.types ≡ further l.i (place_in l.ty (drop l.i l.types))
