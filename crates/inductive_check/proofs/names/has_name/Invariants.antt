use Rattle.std.proofs.Common.{◌≡◌, drop, map}
use Rattle.pc_rules.specs.DirectedDeclarations.{has_name}
use Rattle.inductive_check.specs.Given.{ctor_of}
use Rattle.inductive_check.proofs.names.has_name.Given as goal

abbrev pub invariant-loop-ctor : goal.invariant-loop-ctor
invariant-loop-ctor l = has_name l.name (map ctor_of l.ctors) ≡ has_name l.name (map ctor_of (drop l.ctor-index l.ctors))
