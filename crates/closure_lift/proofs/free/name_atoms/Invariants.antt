use Rattle.std.proofs.Common.{◌≡◌, ◌++◌, drop, reverse}
use Rattle.closure_lift.specs.FreeVariables.{free_atoms}
use Rattle.closure_lift.proofs.free.name_atoms.Given as goal

abbrev pub invariant-loop-past : goal.invariant-loop-past
invariant-loop-past l = l.names.items ++ free_atoms l.n (drop l.past (reverse l.items)) ≡ l.initial.names.items ++ free_atoms l.n (reverse l.items)
