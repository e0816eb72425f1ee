use Rattle.std.proofs.Common.{◌≡◌, ◌++◌, ◌-◌, ◌≤◌, List}
use Rattle.wasm_core.specs.declared.instrs.Instr.{Instr}
use Rattle.wasm_emit.specs.Pushed.{ends}
use Rattle.wasm_emit.proofs.instructions.push_ends.Given as goal

abbrev pub invariant-loop : goal.invariant-loop
invariant-loop l = ((rest : List Instr) → l.out.items ++ ends (l.fn.n - l.counter) rest ≡ l.fn.out.items ++ ends l.fn.n rest) × (l.counter ≤ l.fn.n)
