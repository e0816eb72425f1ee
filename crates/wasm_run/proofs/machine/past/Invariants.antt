use Rattle.std.proofs.Common.{◌≡◌, drop}
use Rattle.wasm_core.specs.MachineRun.{first_past}
use Rattle.wasm_run.proofs.machine.past.Given as goal

abbrev pub invariant-loop-i : goal.invariant-loop-i
invariant-loop-i l = first_past 0 l.size l.segments ≡ first_past l.i l.size (drop l.i l.segments)
