use Rattle.std.proofs.Common.{◌≡◌}
use Rattle.shrink_passes.proofs.Flagging.{trues}
use Rattle.shrink_passes.proofs.flags.Flags.all.Given as goal

abbrev pub invariant-loop : goal.invariant-loop
invariant-loop l = l.items.items ≡ trues l.counter
