use Rattle.std.proofs.Common.{◌≡◌, drop}
use Rattle.first_order.specs.ArgumentTexts.{ctor_from}
use Rattle.first_order.proofs.given.constructor_of_name.Given as goal

abbrev pub invariant-loop-i : goal.invariant-loop-i
invariant-loop-i l = ctor_from l.names l.name 0 l.ctors ≡ ctor_from l.names l.name l.i (drop l.i l.ctors)
