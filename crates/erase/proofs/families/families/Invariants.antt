use Rattle.std.proofs.Common.{◌≡◌, ◌++◌, length, reverse}
use Rattle.erase_rules.specs.DirectedProgram.{box_families}
use Rattle.erase.proofs.families.families.Given as goal

-- with the families of the declarations that are left it is the whole
abbrev pub invariant-loop-kept : goal.invariant-loop-kept
invariant-loop-kept l = box_families l.walk ++ reverse l.out.items ≡ box_families l.env.declarations

abbrev pub decreases-loop-kept : goal.decreases-loop-kept
decreases-loop-kept l = length l.walk
