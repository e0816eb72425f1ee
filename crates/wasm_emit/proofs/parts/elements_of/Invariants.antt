use Rattle.std.proofs.Common.{◌≡◌, ◌+◌, ◌-◌, ◌≤◌, ◌++◌}
use Rattle.wasm_emit.specs.EmittedModule.{entries}
use Rattle.wasm_emit.proofs.parts.elements_of.Given as goal

abbrev pub invariant-loop-k : goal.invariant-loop-k
invariant-loop-k l = (l.funcs.items ++ entries (l.k + 1) (l.n - l.k) ≡ entries 1 l.n) × (l.k ≤ l.n)
