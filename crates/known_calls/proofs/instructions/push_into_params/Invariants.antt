use Rattle.std.proofs.Common.{◌≡◌, ◌++◌, ◌-◌, ◌≤◌, List}
use Rattle.wasm_core.specs.declared.instrs.Instr.{Instr}
use Rattle.known_calls.specs.KnownCode.{into_params}
use Rattle.known_calls.proofs.instructions.push_into_params.Given as goal

abbrev pub invariant-loop-k : goal.invariant-loop-k
invariant-loop-k l = ((rest : List Instr) → l.out.items ++ into_params (l.n - l.k) rest ≡ l.initial.out.items ++ into_params l.n rest) × (l.k ≤ l.n)
