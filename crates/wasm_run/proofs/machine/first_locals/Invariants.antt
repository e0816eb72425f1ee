use Rattle.std.proofs.Common.{◌≡◌, map, take}
use Rattle.wasm_core.specs.Instance.{zero_of}
use Rattle.wasm_run.proofs.machine.first_locals.Given as goal

abbrev pub invariant-loop-i : goal.invariant-loop-i
invariant-loop-i l = l.values.items ≡ map zero_of (take l.i l.types)
