use Rattle.std.proofs.Common.{◌≡◌}
use Rattle.pc_terms.specs.Syntax.{apply, variables}
use Rattle.reduce_machine.proofs.reducts.applied_to_variables.Given as goal

abbrev pub invariant-next : goal.invariant-next
invariant-next l = record { applied : apply l.term (variables l.left) ≡ apply l.fn.head (variables l.fn.count) }

abbrev pub decreases-next : goal.decreases-next
decreases-next l = l.left
