use Rattle.std.proofs.Common.{◌≤◌}
use Rattle.wasm_emit.specs.Pushed.{Pushed}
use Rattle.known_calls.specs.KnownPushed.{arguments_code}
use Rattle.known_calls.proofs.calls.push_arguments.Given as goal

abbrev pub invariant-loop-n : goal.invariant-loop-n
invariant-loop-n l = Pushed l.fn.out.items l.out.items (arguments_code l.n) × (l.n ≤ l.k)
