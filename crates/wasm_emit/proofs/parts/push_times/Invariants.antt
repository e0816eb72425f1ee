use Rattle.std.proofs.Common.{◌≡◌, ◌≤◌, ◌++◌, replicate}
use Rattle.wasm_emit.proofs.parts.push_times.Given as goal

abbrev pub invariant-loop : goal.invariant-loop
invariant-loop l = (l.items.items ≡ l.initial.items.items ++ replicate l.counter l.x) × (l.counter ≤ l.n)
