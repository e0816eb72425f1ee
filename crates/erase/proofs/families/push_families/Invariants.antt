use Rattle.std.proofs.Common.{◌≡◌, ◌≤◌, ◌++◌, length, drop, reverse}
use Rattle.erase_rules.specs.DirectedProgram.{families_from}
use Rattle.erase.proofs.families.push_families.Given as goal

abbrev pub invariant-loop-i : goal.invariant-loop-i
invariant-loop-i l = record {
  within : l.i ≤ length l.families;
  pushed : l.out.items ≡ l.fn.out.items ++ reverse (families_from l.block l.i (drop l.i l.families));
}

abbrev pub decreases-loop-i : goal.decreases-loop-i
decreases-loop-i l = l.i
