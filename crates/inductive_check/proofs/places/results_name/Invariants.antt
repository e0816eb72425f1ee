use Rattle.std.proofs.Common.{◌≡◌, drop}
use Rattle.calculus_rules.specs.Positivity.{results_name}
use Rattle.inductive_check.proofs.places.results_name.Given as goal

abbrev pub invariant-loop-ctor : goal.invariant-loop-ctor
invariant-loop-ctor l = results_name l.target l.ctors ≡ results_name l.target (drop l.ctor-index l.ctors)
