use Rattle.std.proofs.Common.{◌≡◌, drop}
use Rattle.calculus_rules.specs.Naming.{entries_name}
use Rattle.inductive_check.proofs.places.entries_name.Given as goal

abbrev pub invariant-loop-under : goal.invariant-loop-under
invariant-loop-under l = entries_name l.target 0 l.types ≡ entries_name l.target l.under (drop l.under l.types)
