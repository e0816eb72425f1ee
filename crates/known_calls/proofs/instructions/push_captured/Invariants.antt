use Rattle.std.proofs.Common.{◌≤◌}
use Rattle.wasm_emit.specs.Pushed.{Pushed}
use Rattle.known_calls.specs.KnownModule.{captured_words}
use Rattle.known_calls.proofs.instructions.push_captured.Given as goal

abbrev pub invariant-loop-k : goal.invariant-loop-k
invariant-loop-k l = Pushed l.initial.out.items l.out.items (captured_words l.k) × (l.k ≤ l.n)
