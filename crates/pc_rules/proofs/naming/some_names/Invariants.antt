use Rattle.std.proofs.Common.{◌≡◌, drop}
use Rattle.calculus_rules.specs.Naming.{some_names}
use Rattle.pc_rules.proofs.naming.some_names.Given as goal

abbrev pub invariant-loop-t : goal.invariant-loop-t
invariant-loop-t l = some_names l.target l.under l.ts ≡ some_names l.target l.under (drop l.t-index l.ts)
