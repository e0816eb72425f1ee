use Rattle.std.proofs.Common.{◌≡◌, ◌+◌, ◌-◌, ◌≤◌}
use Rattle.reduce_machine.specs.Reducts.{ticks}
use Rattle.reduce_machine.proofs.weak.take_units.Given as goal

-- what is left to take leads from here to where all units lead
abbrev pub invariant-units : goal.invariant-units
invariant-units l = record {
  most : l.left ≤ l.fn.units;
  taken : l.m.account.left + (l.fn.units - l.left) ≡ l.fn.m.account.left;
  account : ticks l.left l.m.account ≡ ticks l.fn.units l.fn.m.account;
  empty : ticks (l.m.account.left + 1) l.m.account ≡ ticks (l.fn.m.account.left + 1) l.fn.m.account;
  nest : l.m.nest ≡ l.fn.m.nest;
}

abbrev pub decreases-units : goal.decreases-units
decreases-units l = l.left
