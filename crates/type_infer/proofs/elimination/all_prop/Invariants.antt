use Rattle.std.proofs.Common.{◌≡◌, drop}
use Rattle.pc_rules.specs.DirectedTyping.{all_prop}
use Rattle.type_infer.proofs.elimination.all_prop.Given as goal

abbrev pub invariant-loop-sort : goal.invariant-loop-sort
invariant-loop-sort l = all_prop l.sorts ≡ all_prop (drop l.sort-index l.sort-items)
