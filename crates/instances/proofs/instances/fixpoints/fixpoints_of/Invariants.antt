use Rattle.std.proofs.Common.{◌≡◌, length}
use Rattle.pc_terms.specs.Lists.{rargs_of, types_of, bodies_of}
use Rattle.calculus_rules.specs.Instances.{fixpoints}
use Rattle.instances.proofs.instances.fixpoints.fixpoints_of.Given as goal

abbrev pub invariant-loop-i : goal.invariant-loop-i
invariant-loop-i l = l.out ≡ fixpoints 0 l.i (rargs_of l.defs) (types_of l.defs) (bodies_of (length l.defs) l.defs)
