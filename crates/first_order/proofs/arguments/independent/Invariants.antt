use Rattle.std.proofs.Common.{◌≡◌, drop}
use Rattle.pc_rules.specs.DirectedFirstOrder.{independent}
use Rattle.first_order.proofs.Working.{behind}
use Rattle.first_order.proofs.arguments.independent.Given as goal

abbrev pub invariant-loop-i : goal.invariant-loop-i
invariant-loop-i l = independent 0 l.entries ≡ behind l.types (independent l.i (drop l.i l.entries))
