use Rattle.std.proofs.Common.{◌≡◌, map}
use Rattle.pc_terms.specs.Syntax.{apply, shift, variables}
use Rattle.type_infer.proofs.made_types.function_of_variables.Given as goal

-- the whole is what is left, applied to the i innermost variables, each lifted
abbrev pub invariant-loop-i : goal.invariant-loop-i
invariant-loop-i l = l.applied ≡ apply l.rest (map (shift l.above 0) (variables l.i))
