use Rattle.std.proofs.Common.{◌≡◌, drop}
use Rattle.pc_terms.specs.Lists.{rargs_of}
use Rattle.calculus_rules.specs.Same.{same_numbers}
use Rattle.conversion.proofs.spine_heads.same_recursive_arguments.Given as goal

-- the rest decides
abbrev pub invariant-loop-i : goal.invariant-loop-i
invariant-loop-i l = same_numbers (rargs_of l.ds) (rargs_of l.es) ≡ same_numbers (rargs_of (drop l.i l.ds)) (rargs_of (drop l.i l.es))
