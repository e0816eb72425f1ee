use Rattle.std.proofs.Common.{◌≡◌, List, [], drop, take, map}
use Rattle.calculus_rules.specs.declared.declaration.Constructor.{Constructor}
use Rattle.pc_rules.specs.declared.meter.Account.{Account}
use Rattle.pc_rules.specs.DirectedDeclarations.{distinct_names}
use Rattle.inductive_check.specs.Given.{ctor_of}
use Rattle.inductive_check.proofs.Distinct.{HaveSameNames}
use Rattle.inductive_check.proofs.names.are_distinct.Given as goal

abbrev pub invariant-loop-i : goal.invariant-loop-i
invariant-loop-i l =
    (before : List Constructor) × HaveSameNames before (map ctor_of (take l.i l.ctors)) ×
    ((u : Account) → distinct_names [] (map ctor_of l.ctors) u ≡ distinct_names before (map ctor_of (drop l.i l.ctors)) u)
