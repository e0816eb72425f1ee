use Rattle.std.proofs.Common.{◌≡◌, ◌||◌, length, drop}
use Rattle.trees.specs.Tree.{terms_of}
use Rattle.pc_terms.specs.Lists.{arms_of, types_of, bodies_of}
use Rattle.calculus_rules.specs.Naming.{has_variable_terms}
use Rattle.pc_rules.proofs.naming.+variables.Given as goal

abbrev pub invariant-terms_have_variable-loop-t : goal.invariant-terms_have_variable-loop-t
invariant-terms_have_variable-loop-t l = has_variable_terms l.i (terms_of l.ts) ≡ has_variable_terms l.i (terms_of (drop l.t-index l.ts))

abbrev pub invariant-branches_have_variable-loop-b : goal.invariant-branches_have_variable-loop-b
invariant-branches_have_variable-loop-b l = has_variable_terms l.i (arms_of l.bs) ≡ has_variable_terms l.i (arms_of (drop l.b-index l.bs))

abbrev pub invariant-definitions_have_variable-loop-d : goal.invariant-definitions_have_variable-loop-d
invariant-definitions_have_variable-loop-d l =
    (has_variable_terms l.i (types_of l.ds) || has_variable_terms l.i (bodies_of (length l.ds) l.ds)) ≡
    (has_variable_terms l.i (types_of (drop l.d-index l.ds)) || has_variable_terms l.i (bodies_of (length l.ds) (drop l.d-index l.ds)))
