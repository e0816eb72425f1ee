use Rattle.std.proofs.Common.{◌≡◌, drop}
use Rattle.wasm_core.specs.MachineStep.{same_types}
use Rattle.wasm_run.proofs.exec.same_types.Given as goal

abbrev pub invariant-loop-i : goal.invariant-loop-i
invariant-loop-i l = same_types l.xs l.ys ≡ same_types (drop l.i l.xs) (drop l.i l.ys)
