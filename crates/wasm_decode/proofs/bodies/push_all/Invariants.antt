use Rattle.std.proofs.Common.{◌≡◌, ◌++◌, ◌≤◌}
use Rattle.std.specs.Prelude.{replicate}
use Rattle.wasm_decode.proofs.bodies.push_all.Given as goal

abbrev pub invariant-loop : goal.invariant-loop
invariant-loop l = (l.found.items ≡ l.fn.found.items ++ replicate l.counter l.fn.t) × (l.counter ≤ l.fn.count)
