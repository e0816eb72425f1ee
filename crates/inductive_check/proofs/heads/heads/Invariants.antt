use Rattle.std.proofs.Common.{◌≡◌, take, map}
use Rattle.calculus_rules.specs.Environment.{head_of}
use Rattle.inductive_check.specs.Given.{family_of}
use Rattle.inductive_check.proofs.heads.heads.Given as goal

abbrev pub invariant-loop-family : goal.invariant-loop-family
invariant-loop-family l = l.out.items ≡ map head_of (map family_of (take l.family-index l.families))
