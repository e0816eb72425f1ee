use Rattle.std.proofs.Common.{◌≡◌, drop}
use Rattle.pc_terms.specs.Syntax.{Term}
use Rattle.calculus_rules.specs.Instances.{products}
use Rattle.type_infer.proofs.made_types.end_of.Given as goal

-- where what is left is a product over the rest of the telescope, the whole is one over all of it
abbrev pub invariant-loop-i : goal.invariant-loop-i
invariant-loop-i l = (E : Term) → l.rest ≡ products (drop l.i l.types) E → l.ty ≡ products l.types E
