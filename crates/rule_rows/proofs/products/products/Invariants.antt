use Rattle.calculus_rules.specs.Environment.{Env}
use Rattle.pc_rules.specs.WellCounted.{IsCounted}
use Rattle.rule_rows.proofs.products.products.Given as goal

abbrev pub invariant-loop-i : goal.invariant-loop-i
invariant-loop-i l = (E : Env) → IsCounted E l.fn.end → IsCounted E l.term
