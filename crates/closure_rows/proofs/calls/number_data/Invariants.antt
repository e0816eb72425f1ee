use Rattle.std.proofs.Common.{◌≡◌, replicate}
use Rattle.closure_rows.proofs.calls.number_data.Given as goal

abbrev pub invariant-loop-made : goal.invariant-loop-made
invariant-loop-made l = l.nodes.items ≡ replicate l._made (1, 1)
