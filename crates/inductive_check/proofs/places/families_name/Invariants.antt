use Rattle.std.proofs.Common.{◌≡◌, drop}
use Rattle.calculus_rules.specs.Positivity.{families_name}
use Rattle.inductive_check.proofs.places.families_name.Given as goal

abbrev pub invariant-loop-family : goal.invariant-loop-family
invariant-loop-family l = families_name l.target l.families ≡ families_name l.target (drop l.family-index l.families)
