use Rattle.std.proofs.Common.{◌≡◌, ◌-◌, drop}
use Rattle.pc_terms.specs.Syntax.{apply}
use Rattle.type_infer.proofs.made_types.function_of.Given as goal

-- the whole is what is left, applied to the last i terms
abbrev pub invariant-loop-i : goal.invariant-loop-i
invariant-loop-i l = l.applied ≡ apply l.rest (drop (l.count - l.i) l.items)
